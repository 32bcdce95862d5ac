pub mod HandingUp
pub mod Making
pub mod Mirrored
pub mod Narrowed
pub mod View
