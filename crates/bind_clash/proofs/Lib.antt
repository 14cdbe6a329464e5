-- What is matched by names stands under the path of the other's, and what stands under that path is matched. Serves FaultsMeant, KeysMatched; crates above.
pub mod PathsMatched
-- Which own entry stands under a key of the other's. Serves FaultsMeant; crates above.
pub mod KeysMatched
-- Faults by numbers are faults of the bindings. Serves laws::clashes_are_of_bindings; crates above.
pub mod FaultsMeant
-- The least of the texts that have a fault, found one after the other. Serves interfaces::faulty_interface, interfaces::least_crossing, interfaces::least_fault, worlds::faulty_world; crates above.
pub mod LeastFaults
-- What clashes by numbers is what clashes in the bindings. Serves laws::clashes_are_of_bindings; crates above.
pub mod ClashesMeant
-- The first clash that is found is the one that is named. Serves clashes::refuse_clash.
pub mod FirstClash
-- The first entry of a list that has a fault, and places under keys. Serves items::faulty_export, items::faulty_import, items::own_place.
pub mod FirstFaults
-- What is matched is in range, and what a comparison says of it. Serves interfaces::crossing, interfaces::differs, interfaces::fault, interfaces::least_crossing and 2 more.
pub mod Matched
