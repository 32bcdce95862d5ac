pub mod Faults
pub mod Follow
