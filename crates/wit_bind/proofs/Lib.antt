-- What hasn't changed is kept. Serves bindgen::merge, bindgen::merge_matched.
pub mod AsItWas
-- What stands under the number of a world that means something by itself. Serves RootBindings; crates above.
pub mod BoundWorlds
-- What is new by name or path is copied. Serves Growth, Merging.
pub mod Bringing
-- Copies that are numbered one behind the other stand in the order of what they are copies of. Serves Brought.
pub mod InOrder
-- What both passes copy has its own documentation, stability and external ids in what is merged. Serves Merging.
pub mod Brought
-- Where nothing clashes, what is matched has one path and one sense. Serves bindgen::merge_matched, laws::matches_have_paths.
pub mod MatchedPaths
-- Bindings that unite, by the entries and the numbers of their `Resolve`s. Serves laws::united_agree_by_numbers.
pub mod NumbersAgree
-- What is carried by path is new. Serves Coming, Growth, Outgrown.
pub mod TooMany
-- What is copied of other bindings comes by its path, or is gained by the own bound world. Serves Growth, Merging, Outgrown.
pub mod Coming
-- What is added under new keys comes behind what was there. Serves laws::grown_extend.
pub mod Extending
-- Encodings put under one key after the other. Serves wanted::put_behind, wanted::put_members, wanted::wanted_encodings.
pub mod Putting
-- The entries of functions, listed, are exactly those of functions. Serves encodings::from_unversioned, metadata::encodings.
pub mod FunctionKeys
-- What is planned can be added, and what is added is behind what there was. Serves bindgen::grow, bindgen::merge, bindgen::merge_matched; crates above.
pub mod Growing
-- A merge adds what comes, and nothing where nothing is new. Serves bindgen::merge_matched.
pub mod Growth
-- Bindings that are as they were stand for the same binding. Serves laws::kept_bindings_are_the_same.
pub mod KeptBindings
-- What is merged of two bindings stands for their union. Serves laws::united_are_the_union.
pub mod UnionBound
-- What comes of two bindings that don't clash, once all that the one brings is added to the other. Serves bindgen::merge_matched.
pub mod Merging
-- In a valid `Resolve` each function of a world has a key. Serves laws::each_has_a_key; crates above.
pub mod ValidKeys
-- In a valid `Resolve` functions of a world that share a key shared their key without version. Serves encodings::from_unversioned, laws::one_old_key.
mod OneKey
-- Where a union would make a list too long, so would what comes. Serves bindgen::merge_matched.
pub mod Outgrown
-- Why bindings can't be united, or that they can, from what is compared by numbers. Serves bindgen::matched.
pub mod Refusals
-- Bindings of the code stand for bindings, and the empty root world for the one that every module begins with. Serves laws::bindgens_are_bindings, laws::roots_are_roots; crates above.
pub mod RootBindings
-- The `Resolve` of the empty root world is valid, and means it. Serves bindgen::default.
mod Roots
-- A world by its number. Serves encodings::from_unversioned.
mod Sides
-- It can be told whether meanings have the same sense. Serves Uniting; crates above.
pub mod Telling
-- Room for more changes no entry, so bindings are as they were. Serves bindgen::grow.
pub mod Unchanged
-- Bindings of which nothing clashes by numbers unite. Serves bindgen::matched.
pub mod Uniting
