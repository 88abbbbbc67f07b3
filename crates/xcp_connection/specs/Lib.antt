pub mod Closing
pub mod Connections
pub mod Hearing
pub mod Parts
pub mod Pumping
pub mod Sending
pub mod private
