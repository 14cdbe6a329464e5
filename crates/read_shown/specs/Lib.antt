pub mod Trees
pub mod Views
pub mod Scopes
pub mod Instances
pub mod Parts
pub mod Kinds
pub mod FollowLaws
