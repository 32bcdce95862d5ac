pub mod Alike
pub mod HandedUp
pub mod Leading
pub mod Mirrored
pub mod Narrowed
