pub mod Paths
pub mod UseGroups
pub mod Printable
