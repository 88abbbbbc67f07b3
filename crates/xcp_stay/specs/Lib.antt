pub mod Stay
pub mod Team
pub mod Unmet
