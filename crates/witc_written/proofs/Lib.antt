-- A section behind a module, and what the two bind. Serves carried::attach, carried::joined.
mod AttachedLaws
-- The package of a world, and all others. Serves homes::home_of, homes::other_packages, worlds::world_text; crates above.
pub mod HomeLaws
-- Worlds by themselves, their packages, and what these are refused for. Serves worlds::world_package, worlds::world_text; crates above.
pub mod WorldLaws
-- Packages encoded anew. Serves packages::module_package, packages::package_bytes.
mod WrittenLaws
