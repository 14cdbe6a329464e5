pub mod Follow
pub mod Same
pub mod Rules
pub mod Reads
pub mod Meanings
pub mod ByLevels
pub mod SameLaws
pub mod Agreement
