pub mod Ends
pub mod Rule
pub mod private
