-- One comparison of two kinds, and the table after it. Serves compare::compare_kinds, compare::settle, types::same_all.
pub mod Comparing
-- The beginning of a table is so many different pairs of the walk. Serves worlds::compare_anew.
pub mod Counting
-- What the kinds of two `Resolve`s' types declare. Serves declarations::look_at_both, declarations::look_at_kinds, declarations::look_at_targets, declarations::same_declarations and 1 more.
pub mod Declared
-- Worked examples, which the prover computes. Serves no function.
mod Examples
-- A table that was settled takes more pairs, and is settled again. Serves types::same_all.
pub mod Settling
-- Entries that are found one by one, and the first that isn't. Serves included, included::check_entry.
pub mod Including
-- An index finds what its list has. Serves index, index::find, sides::gathered.
pub mod Indexing
-- Worlds that may take each other's place in turn. Serves laws::transitive.
pub mod Transitive
-- Lists in which the same is found have the same included, the same faults and the same pairs. Serves sides::compare_sides, worlds::compare_named.
pub mod Matching
-- What is found under a name, and what two interfaces have by name. Serves contents::same_item_under, interfaces::same_function_under, interfaces::same_interfaces, interfaces::same_members and 2
-- more.
pub mod Members
-- A world whose keys stand once shows nothing twice, so it may take its own place. Serves laws::reflexive.
pub mod Reflexive
-- What is refused isn't accepted. Serves laws::refusals_are_exact, worlds::compare_named.
pub mod Refusing
-- Two maps made of lists of entries are the same where their lists are as long, and each entry of the one is found in the other. Serves contents::same_indexed, interfaces::same_functions,
-- interfaces::same_named_types.
pub mod SameMaps
-- Two functions have the same opened signature exactly where its parts are the same. Serves functions::same_functions, included, included::check_entry, part::same_parts and 3 more.
pub mod Signatures
-- Places of two sorts have different senses. Serves senses::same_places.
pub mod Sorts
-- Items of worlds of two `Resolve`s. Serves contents::items, contents::put, contents::same_indexed, contents::same_item_under and 6 more.
pub mod WorldContents
