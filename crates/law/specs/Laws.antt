pub mod Accounts
pub mod Arrivals
pub mod Law
pub mod States
