-- What follows from an element of a list made of two: by which of them it stands in. Serves Alike, Growing, Keyed, Repeating and 1 more; crates above.
pub mod Either
-- The opened tree of a type number is made of those of the numbers in it. Serves Alike, Sided; crates above.
pub mod OpenedTable
-- Two numbers have the same opened tree exactly where their kinds are the same and what stands at equal places has the same tree. Serves Sided; crates above.
pub mod Alike
-- A table that grows by pairs. Serves pairs::meet, pairs::meet_all; crates above.
pub mod Growing
-- Things and their keys: what an item shows is all under its key, and has its key's number. Serves Validity; crates above.
pub mod Keyed
-- What interfaces are called. Serves names::interface_names, names::labels, names::note_world.
pub mod Naming
-- Texts by number: a number is one text's, and stays. Serves keys::key_of, names::numbers, names::same_names; crates above.
pub mod Numbering
-- The four parts of a form tell which form it is. Serves kinds::given_of, kinds::labels_of, kinds::same_forms, labels::same_labels and 3 more.
pub mod Outlines
-- What a valid `Resolve` gives for comparing. Serves Ranges; crates above.
pub mod Validity
-- What a valid `Resolve` has is in range. Serves names::add_keys, repeats::repeated_key; crates above.
pub mod Ranges
-- Texts that stand once, and the first that repeats an earlier one. Serves repeats::repeated_in_world, repeats::repeated_key, repeats::twice; crates above.
pub mod Repeating
-- Types of two `Resolve`s, and the paths of their interfaces. Serves side::path_at, side::same_paths; crates above.
pub mod Sided
