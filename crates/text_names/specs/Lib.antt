pub mod Faults
pub mod Orders
pub mod Walks
pub mod Contents
pub mod Tables
pub mod Paths
