pub mod Flashing
pub mod Given
pub mod Scribing
pub mod ShelfCalls
pub mod Standing
