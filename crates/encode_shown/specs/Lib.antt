pub mod Views
pub mod PackageTypes
pub mod ShownLaws
