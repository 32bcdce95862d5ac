pub mod Causes
pub mod Ordering
pub mod Settling
pub mod World
