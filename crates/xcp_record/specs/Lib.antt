pub mod FileFormat
pub mod JournalFile
pub mod Audit
pub mod Recording
pub mod private
