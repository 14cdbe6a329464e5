-- Lists whose elements pass a test. Serves Declarations, FunctionsWell, Valid; crates above.
pub mod WellLists
-- What is shown of a function of a valid `Resolve` is well named. Serves Valid; crates above.
pub mod FunctionsWell
-- What is shown of a valid `Resolve`'s interfaces is well named. Serves Declarations, Listed; crates above.
pub mod Valid
-- The declarations of an owner's types, one after the other. Serves Listed; crates above.
pub mod Declarations
-- Uses one after the other are the groups that are shown. Serves use_group::same_characters, use_group::write_new_group, use_group::write_use.
pub mod UseGroups
-- One type of an owner's list after the other is printed. Serves use_group::print_listed_use, use_group::print_uses; crates above.
pub mod Listed
-- What a path is, by the package of the interface that it leads to. Serves path::write_path, path::write_path_to.
pub mod PathParts
-- Versions are the same exactly where they have one text. Serves use_group::same_version.
pub mod SameVersions
