-- A walk that ends at the first item that doesn't pass. Serves interfaces::are_functions, interfaces::are_types, items::are_exports, sights::are_interfaces and 1 more.
pub mod AllLaws
-- Tests of one text among several, and the names of parameters. Serves parts::are_parameter_names.
pub mod TextLaws
-- Functions that belong to one of several resources: the name says which. Serves functions::belongs, functions::is_constructor, functions::is_method, functions::is_static.
pub mod FunctionLaws
-- What the rules on interfaces come to, function by function and name by name. Serves interfaces::have_one_name_each, interfaces::is_interface, interfaces::may_stand.
pub mod InterfaceLaws
-- The last dot of a text. Serves functions::at_last_dot.
pub mod LastDots
-- The names of functions of resources, cut at their last dot: a label has none. Serves functions::resource_in; crates above.
pub mod MemberNames
-- Numbers, none of which stands twice. Serves places::are_once; crates above.
pub mod PlaceLaws
-- Imports that are reached, from the last one back. Serves reached::add_type, reached::add_used, reached::are_reached.
pub mod ReachedLaws
-- Names of resources, added to a set one by one. Serves resources::add_resource, resources::resources_of.
pub mod ResourceLaws
-- Views that are added one by one. Serves sights::add_sights; crates above.
pub mod SightLaws
-- Imports and exports of a world, one by one, and what stands earlier. Serves items::are_imports, items::have_one_key_each, items::is_item, items::may_be_exported and 5 more.
pub mod WorldLaws
