pub mod AskedCommands
pub mod NumberBytes
pub mod PlainAnswers
pub mod Timeless
