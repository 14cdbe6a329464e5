-- The interfaces of a plan. Serves interfaces::all_interfaces, interfaces::interface_at, interfaces::interface_of, interfaces::interfaces_of and 1 more.
pub mod InterfaceLaws
-- What is listed in a package. Serves laws::homes_are_listed, laws::worlds_are_listed; crates above.
pub mod ListedLaws
-- The packages of a plan. Serves packages::all_packages, packages::by_order, packages::list_interface, packages::list_interfaces and 2 more.
pub mod PackageLaws
-- Places that are met, and numbers of places among some. Serves numbers::index_of, plan::whole_plan; crates above.
pub mod PlacedLaws
-- The packages of a plan of what is exported, as they are read. Serves laws::packages_are_read; crates above.
pub mod ReadPackageLaws
-- A plan, whole. Serves plan::whole_plan.
pub mod WholeLaws
-- The worlds of a plan. Serves worlds::item_of, worlds::resources_of.
pub mod WorldLaws
