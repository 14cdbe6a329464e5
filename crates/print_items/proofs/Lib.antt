-- What is written of functions of resources. Serves resource::write_constructor, resource::write_member, resource::write_resource_body, resource::write_resource_function.
pub mod Constructors
-- Runs of calls, one for each element of a list. Serves function::write_more_params, function::write_params, labels::write_each_case, labels::write_each_flag and 3 more; crates above.
pub mod Runs
-- How calls in turn move a view: one call and then the others, some calls and then some more. Serves spelled::print_case, spelled::print_character, spelled::print_feature, spelled::print_length and 5
-- more; crates above.
pub mod Moves
-- Calls of a driver: one call, calls after calls, and what they come to at the end. Serves alias, alias::write_kind_behind, alias::write_map, alias::write_type_alias and 52 more; crates above.
pub mod Driven
-- The lines of a text have no line end in them. Serves prefix::write_lines.
pub mod DocLines
-- What is shown in front of an item of a valid package is well named. Serves TypesWell; crates above.
pub mod ShownWell
-- What is shown of a type number is well named, if its parts stand before it. Serves Declared, TypeParts; crates above.
pub mod TypesWell
-- What is shown of a type number: its name, or the calls for its kind part by part. Serves type_name::types, type_name::write_type; crates above.
pub mod TypeParts
-- Declared types, part by part. Serves alias::write_kind_behind, alias::write_type_alias, labels::write_enum, labels::write_flags and 2 more; crates above.
pub mod Declared
-- What text may stand in front of a line. Serves driver::keyword, driver::word, prefix::write_external_id_end, type_name::write_comma.
pub mod Fronts
-- Labels and versions have no line end in them, and begin with no space. Serves driver::case, driver::feature, driver::length, driver::name and 3 more.
pub mod OneLine
