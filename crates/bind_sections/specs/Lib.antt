pub mod SectionBindings
pub mod Bound
pub mod BoundLaws
pub mod Orders
pub mod Steps
pub mod Blamed
