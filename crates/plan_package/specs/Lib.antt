pub mod Listed
pub mod PlanWhole
pub mod ReadPackages
pub mod Views
pub mod WholeInterfaces
pub mod WholePackages
pub mod WholeWorlds
