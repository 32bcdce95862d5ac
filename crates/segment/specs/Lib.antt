pub mod Calls
pub mod Cycle
pub mod Laws
pub mod Names
pub mod Refusal
pub mod Row
