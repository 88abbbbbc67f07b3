pub mod Inboxes
pub mod Seating
pub mod Ticking
pub mod Trails
