pub mod WorldNames
pub mod Clashes
pub mod ClashLaws
pub mod NameLaws
pub mod Rebuilt
pub mod WorldSteps
