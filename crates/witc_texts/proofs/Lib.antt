-- Packages by their numbers, and modules that are refused. Serves modules::module_text, modules::other_packages, modules::whole_text; crates above.
pub mod BindingsLaws
-- Worlds of a valid `Resolve` by their names. Serves worlds::world_of.
mod NamedLaws
-- What is left of a module. Serves crates above.
pub mod StrippedLaws
