pub mod Checking
pub mod FaultWords
pub mod Locating
pub mod PlainWords
