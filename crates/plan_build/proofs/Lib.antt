-- A plan that was read can be built. Serves laws::plans_are_buildable, resolve::build; crates above.
pub mod BuildableLaws
-- Lists that are built of others, entry by entry. Serves functions::functions_of, interfaces::interfaces_of, packages::packages_of, worlds::entries_of and 1 more.
pub mod Listing
-- Maps that are built of lists whose keys differ. Serves functions::functions_of, maps::numbers_of, worlds::entries_of.
pub mod Mapping
-- Maps whose keys are names, and those whose keys are of imports and exports. Serves functions::functions_of, interfaces::interface_of, maps::numbers_of, packages::package_of and 1 more.
pub mod Named
-- A text that was read as a version is the text of that version. Serves packages::version_of.
pub mod Versions
