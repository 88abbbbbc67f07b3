pub mod ControllerValue
pub mod ImageRanges
pub mod KeptImages
pub mod private
