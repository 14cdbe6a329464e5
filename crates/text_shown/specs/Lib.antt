pub mod Same
pub mod Means
pub mod Members
pub mod ShowsWorlds
pub mod SameWorlds
pub mod WorldMembers
pub mod Shows
pub mod SamePackages
