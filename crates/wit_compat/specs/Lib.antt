pub mod Index
pub mod Comparison
