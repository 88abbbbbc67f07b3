pub mod Decided
pub mod FlashFile
pub mod References
pub mod Restoring
pub mod FlashLaws
pub mod private
