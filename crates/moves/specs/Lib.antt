pub mod Axes
pub mod Blocks
pub mod Kept
pub mod Moves
pub mod Sheet
pub mod Room
pub mod Sized
