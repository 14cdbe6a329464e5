-- The characters since the last line feed, counted from the front. Serves places::column_behind.
pub mod Columns
-- What stands in worlds, as definitions grow and as what paths and members mean carries over. Serves Paths, Showing, StageLaws, WorldLaws and 1 more.
pub mod ExternLaws
-- What is made stays made as interfaces and definitions grow. Serves read::resolve_in, read::worlds_of.
pub mod WorldsGrow
-- How a world's imports, or its exports, come to be those that are stated. Serves exports, exports::export_extern, imports, worlds and 4 more.
pub mod SideLaws
-- The interfaces that a world states by path. Serves externs::paths_of, externs::state, externs::state_extern, externs::state_paths and 1 more.
pub mod FrontLaws
-- What is stated, as entries of a world. Serves exports::add_inline_export, exports::export_inline, exports::export_label, exports::export_path and 4 more.
pub mod EntryLaws
-- A walk comes to its end: each step makes what is left smaller. Serves walk::put.
pub mod Falling
-- Items of the packages of texts, and what is known of them by number. Serves Showing.
pub mod Filtered
-- What is made of members in a scope. Serves interfaces::add_interface.
pub mod InterfaceLaws
-- Paths as keys of maps. Serves externs::state_one, parts::add_new, walk::has, walk::put_one and 1 more.
pub mod Keys
-- Packages list what texts declare, one after the other. Serves packages::bare_packages, packages::name_all, packages::name_interface, packages::name_world.
pub mod Listing
-- Interfaces are made one after the other, each once. Serves read::interfaces_of, read::make_interface.
pub mod Ordered
-- What walks put are interfaces by their paths. Serves exports::add_inline_export, exports::export_label, exports::export_path, imports::add_inline_import and 4 more.
pub mod PathLaws
-- What paths, names and members mean in a `Resolve` that has what texts declare. Serves Showing, WorldLaws.
pub mod Paths
-- An order has no cycle. Serves read::resolve_in.
pub mod Ranks
-- Texts with their trees, as they are read. Serves read::folder_texts_of, read::read_trees.
pub mod ReadTrees
-- Trees of texts, one after the other. Serves read::read_trees, trees::trees_of.
pub mod Refusing
-- Members of a world one after the other, and what types and functions come of them. Serves externs::add_callable, externs::add_callables, externs::add_declared, externs::add_extern and 7 more.
pub mod StageLaws
-- A `Resolve` that has what texts declare shows their trees. Serves read::read_sources.
pub mod Showing
-- What a walk that puts interfaces keeps. Serves exports::export_extern, exports::export_inline, exports::export_label, exports::export_path and 18 more.
pub mod Walking
-- What a world is, by its imports, its types, its functions and its exports. Serves exports::export_extern, worlds::add_items, worlds::made, worlds::make_types and 1 more.
pub mod WorldLaws
-- Worlds are made one after the other. Serves read::worlds_of.
pub mod WorldsSoFar
