pub mod FirstShown
pub mod Orders
pub mod PlannedTypes
pub mod Showings
pub mod Used
