-- What is known of types, one after the other. Serves facts::facts_of.
pub mod FactNumbers
-- The order in which imports came into the table. Serves laws::imports_come_last; crates above.
pub mod ImportOrder
-- The parts of types that are imported. Serves laws::imports_are_named; crates above.
pub mod ImportParts
-- Scopes in numbers. Serves laws::scopes_in_numbers; crates above.
pub mod ScopeNumbers
-- Tables and places in numbers. Serves laws::tables_in_numbers.
pub mod TableNumbers
-- All parts of an input in numbers. Serves laws::inputs_in_numbers; crates above.
pub mod InputNumbers
-- The names in a part, by the numbers of their places. Serves KnownNumbers.
pub mod NameNumbers
-- What is known of a part, as it is seen from a place. Serves laws::facts_in_numbers.
pub mod KnownNumbers
-- The places that a part is over, by the names that stand in its tree. Serves laws::met_parts_are_seen; crates above.
pub mod MetNumbers
-- Views in numbers: the places that they are over, the numbers of their names, and the order of these. Serves PlacedMembers; crates above.
pub mod PlacedViews
-- The scopes of an input in numbers: what they are over, and in which order their names came into the table. Serves laws::places_are_kept; crates above.
pub mod PlacedMembers
-- What is known of the parts of scopes. Serves laws::scopes_are_known; crates above.
pub mod KnownScopes
-- Items that are made one after the other. Serves places::paths_of, scopes::instances_of, tables::functions_of, tables::shapes_of; crates above.
pub mod LoopLaws
-- Paths and instances by number. Serves places::paths_of, scopes::instances_of.
pub mod PlaceNumbers
