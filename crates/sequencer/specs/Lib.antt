pub mod Calls
pub mod Checks
pub mod Executable
pub mod Numbers
pub mod Questions
pub mod Refusals
pub mod Takes
pub mod Whole
