-- A text that stands in another one has there what it has. Serves spans::copy_span.
pub mod Cuts
-- A walk along needs keeps what is said of it at each step, and comes to its end. Serves order::order_of, order::step; crates above.
pub mod WalkLaws
-- The whole text as it grows, and the places of texts in it. Serves whole::placed_texts, whole::whole_of; crates above.
pub mod WholeLaws
-- Inclusions of worlds, written out. Serves expand::add_all, expand::add_name, expand::add_parts, expand::add_renamed and 7 more.
mod ExpandLaws
-- Plain files, with what worlds have. Serves plain::files_in, plain::files_within, writing::add_item, writing::files_of and 4 more.
mod FileLaws
-- Tables that take what is new. Serves expand::add_name, scopes::add_head, scopes::add_item, worlds::number_first.
mod MapLaws
-- What a world has so far, and the table of what of it is imported or exported by itself. Serves merging::push, merging::stands.
mod MergeLaws
-- What worlds include, by number. Serves expand::nothing_done, needs::needs_of_worlds.
mod NeedLaws
-- The types of a tuple, as a row and as a list. Serves types.
pub mod Rows
-- Packages of texts: what names them, and the names at their top. Serves expand::add_name, scopes::add_head, scopes::add_item, scopes::heads_of and 8 more.
mod ScopeLaws
-- Trees with their own names are as they were. Serves members::keep_declared, members::keep_signature.
pub mod Stays
-- What is found in tables of names and of paths. Serves paths::other_name, paths::route, paths::route_of.
pub mod Tables
-- The worlds of texts, by number, and what paths mean. Serves worlds::add_scope, worlds::add_scopes, worlds::add_text, worlds::add_world and 6 more.
mod WorldLaws
