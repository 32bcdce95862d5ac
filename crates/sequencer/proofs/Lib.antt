pub mod Cycles
pub mod Passing
pub mod Releases
pub mod Takes
