pub mod Orders
pub mod Refused
pub mod Settles
pub mod Used
pub mod Turned
