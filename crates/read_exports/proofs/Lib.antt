-- The component type of an interface, in numbers. Serves laws::interface_scopes_in_numbers, laws::interfaces_in_numbers; crates above.
pub mod InterfaceLaws
-- The rules on a package and on one world, put together. Serves packages::are_package, worlds::is_one_world.
pub mod PackageLaws
-- Walks along lists, step by step. Serves interfaces::imported_views, interfaces::places_of, sights::add_imports; crates above.
pub mod WalkLaws
