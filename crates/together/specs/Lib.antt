pub mod Works
pub mod Crews
pub mod private
