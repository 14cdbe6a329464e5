-- The numbers that a function and a kind refer to are those of their parts. Serves numbers::cases_are_below, numbers::function_is_below, numbers::kind_is_below.
pub mod Below
-- What a walk over a list of a `Resolve` has found, entry by entry and at its end. Serves item_orders::check_worlds, labels::check_interfaces, labels::check_types, labels::check_worlds and 42 more.
pub mod Found
-- The order of an owner's list, by the greatest place of what is met at each number. Serves list_orders::reach_at.
pub mod Ordered
-- The order of an owner's list, entry by entry: what each owner's list has to know of its types. Serves ItemOrders, ListOrders.
pub mod OwnerOrder
-- The rule on packages' names from its two parts. Serves names::check, names::check_distinct, names::check_well_named.
pub mod PackageNames
-- The third part of the rule on the order of types, by places, for interfaces and worlds. Serves list_orders::check_interfaces, list_orders::check_worlds, list_orders::interface_keeps,
-- list_orders::world_keeps and 1 more.
pub mod ListOrders
-- The order of a world's items, by what is shown and by how far its functions reach. Serves item_orders::check, item_orders::world_keeps.
pub mod ItemOrders
-- The unnamed levels of a type may be computed along the list of types, where each refers to smaller numbers alone. Serves levels::interface_keeps, levels::level_table, levels::type_keeps,
-- levels::world_keeps and 1 more.
pub mod LevelTable
-- The tests of the rule on owners, by a table of what is met. Serves owners::interface_keeps, owners::type_keeps, owners::world_keeps.
pub mod OwnerTable
-- A table of what worlds show says where inline interfaces stand. Serves shown::mark, shown::shown_table.
pub mod PlaceTable
-- What holds of each entry that a walk has seen. Serves maps::read_interfaces, maps::read_packages, maps::read_worlds.
pub mod Seen
-- The sets of the interfaces that each interface uses. Serves item_orders::item_is_ready, item_orders::uses_at, item_orders::uses_table.
pub mod UsesTable
