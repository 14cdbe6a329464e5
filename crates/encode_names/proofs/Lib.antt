-- The first element of a list, and what follows it. Serves OneClash, Rebuilt.
pub mod Lists
-- The imports of a world are known from its types and from the others, each with how many types stand before it. Serves laws::imports_are_rebuilt; crates above.
pub mod Rebuilt
-- The path of an interface, as it is written and completed, reads as its path. Serves NamesRead; crates above.
pub mod PathsRead
-- The name of each import and each export of a valid world says which it is. Serves laws::names_are_read; crates above.
pub mod NamesRead
-- One declaration more in the component type of a world, followed, shows one import or export more. Serves laws::entries_are_shown; crates above.
pub mod WorldSteps
-- A component type that has imported types, while nothing else has changed, shows these types too. Serves laws::imports_are_rebuilt; crates above.
pub mod EntriesRebuilt
-- A view that shows an interface has each named type of the interface under its name. Serves laws::instances_stand; crates above.
pub mod TypesFound
-- The instances in the component type of a world are those of the interfaces that it shows, and their types are reached by aliases. Serves laws::instances_stand; crates above.
pub mod InstancesStand
-- A list has one first repeat at most, and none where its texts are different. Serves laws::one_clash.
pub mod OneClash
-- Names that are seen one after the other: the next canonical path, and what comes of a name that was seen. Serves clash::refuse_clash, clash::refuse_repeat; crates above.
pub mod Paths
-- What the list of imports, or that of exports, is refused for, the world is refused for. Serves clash::refuse_clashes.
pub mod Refusing
-- Texts that are seen one after the other: a text that was seen, and one that is new. Serves clash::see.
pub mod Repeats
