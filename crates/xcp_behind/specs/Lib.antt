pub mod Bounds
pub mod Room
pub mod Writing
