-- Texts as keys: maps united, a key taken out, lists in which no key stands twice. Serves ClashLaws, EachOrder, InterfaceExamples, ListLaws and 5 more; crates above.
pub mod Maps
-- One clash at most is named, and none of bindings that are united. Serves laws::clashes; crates above.
pub mod ClashLaws
-- Bindings by lists: they don't clash where no two entries of their lists do, and their union is that of the lists. Serves laws::by_lists; crates above.
pub mod ListLaws
-- What stands in lists, and what is found in them under a key. Serves EachOrder, KeyNames, WorldBindings, WorldPaths; crates above.
pub mod Listed
-- The union of bindings is a binding, and it doesn't matter which comes first. Serves laws::both_orders, laws::clashes; crates above.
pub mod UnionLaws
-- Many bindings can be merged exactly where no two of them clash. Serves laws::any_order; crates above.
pub mod Orders
-- Lists with the same members give the same by sense. Serves laws::any_order; crates above.
pub mod EachOrder
-- The binding of a world by lists, and which faults bindings by lists have, for worked examples. Serves no function, only Examples, InterfaceExamples, OrderExamples.
pub mod WorldLists
-- Worked examples: worlds of functions, merged onto the empty root world, and what clashes with them. Serves no function, only InterfaceExamples, OrderExamples.
pub mod Examples
-- Worked examples: worlds that import and export interfaces, of one version and of several. Serves no function, only OrderExamples.
pub mod InterfaceExamples
-- Texts without a byte, and the names of functions, which lack those that paths and keys are cut by. Serves WorldBindings; crates above.
pub mod KeyNames
-- Worked examples: worlds that bind in every order, and one that binds in none. Serves no function.
mod OrderExamples
-- The empty root world unites with each world that shows no interface at its path, and gains what that world has. Serves laws::one_world_is_bound; crates above.
pub mod RootLaws
-- Two bindings unite or clash, where it can be told whether their parts have the same sense. Serves laws::clashes; crates above.
pub mod Searches
-- A world is known by its path: in valid packages no two have the same, and none has that of an interface. Serves WorldBindings; crates above.
pub mod WorldPaths
-- A world of a valid `Resolve`, bound, is a binding. Serves laws::worlds_are_bindings; crates above.
pub mod WorldBindings
