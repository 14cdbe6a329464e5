-- Packages that each stand once, and what stands of places where there are more of them. Serves homes::homes_of, packages::number_of, packages::put; crates above.
pub mod PackageLaws
-- The packages of places, one place after the other. Serves homes::home_at, homes::homes_of.
pub mod HomeLaws
