pub mod Aims
pub mod Ends
