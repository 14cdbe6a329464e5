pub mod BoundTo
pub mod Reached
