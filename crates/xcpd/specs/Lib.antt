pub mod Counted
pub mod Distance
pub mod Faults
pub mod NamedFiles
pub mod Planned
