pub mod Decided
pub mod DecidedWorlds
pub mod Layers
pub mod PartMembers
pub mod ReadMembers
