-- What follows from false, and numbers by cases and by the smaller ones. Serves Carrying, CopyRules, Homes, Images and 12 more; crates above.
pub mod Lists
-- Types under other numbers stand for the same trees. Serves laws::renumbered; crates above.
pub mod Images
-- What was there is carried into what grows, under its own numbers. Serves BoundMeanings, Kept, KeptPackages, KeptPlaces and 5 more; crates above.
pub mod Itself
-- What the rules ask of a kind, by its view, and the same under other numbers. Serves Carrying, CopyRules, Homes, Kept and 3 more; crates above.
pub mod ViewTests
-- What is carried into another `Resolve` stands in the same places, for the same trees, and meets the same named types. Serves CopyRules, Homes, Kept, KeptPackages and 5 more; crates above.
pub mod Carrying
-- What is carried keeps its owner, and a resource stays one. Serves CopyRules, InterfaceRules, KeptPlaces, Listed and 3 more; crates above.
pub mod Homes
-- What the rules ask of a type, of a function and of an entry of a world holds of its copy. Serves InterfaceRules, Kept, KeptPackages, Meanings and 2 more.
pub mod CopyRules
-- What an interface uses, and what the rules ask of it, holds of its copy, with its numbers in order. Serves Kept, Listed, WorldOrder, WorldRules.
pub mod InterfaceRules
-- What an item of a world uses stands before it where its copy stands, too, and an interface or a type is an item there as often. Serves Kept, KeptPlaces, Listed, Namesakes and 1 more.
mod WorldOrder
-- A copied type stands in its new owner's list under its name, once. Serves Kept, KeptPlaces, Namesakes, PackageNames and 2 more; crates above.
pub mod Listed
-- Names in packages that were joined. Serves KeptPackages, KeptPlaces, United, UnitedWorlds; crates above.
pub mod PackageNames
-- What stands in the packages of what was merged has its name and its package there, and no two packages have one name. Serves Kept, KeptPlaces, United, UnitedWorlds and 1 more; crates above.
pub mod KeptPackages
-- What the rules ask of a world holds of one in which another's entries stand. Serves Kept; crates above.
pub mod WorldRules
-- Each type, interface and world of what was merged is a copy, of an own one or of one of the other's, and so most rules are kept. Serves BoundMeanings, KeptPlaces, Meanings, United and 2 more.
mod Kept
-- What is carried means what it meant. Serves laws::meanings.
mod Meanings
-- Types of interfaces of one path and one sense stand for each other. Serves laws::matched; crates above.
pub mod Namesakes
-- The bound world means what it meant, followed by what is new in the other's bound world. Serves laws::meanings; crates above.
pub mod BoundMeanings
-- In what was merged interfaces and worlds stand in their packages, and each inline interface in one world. Serves UnitedWorlds, Valid.
mod KeptPlaces
-- Matched interfaces and their types stand in what begins with own lists, numbers given in order rise, and entries and names are joined one by one. Serves laws::for_code; crates above.
pub mod MatchedStand
-- What is merged of two valid ones is valid. Serves laws::merged_is_valid; crates above.
pub mod Valid
-- The interfaces of what was merged, by path, are those of both. Serves laws::meanings; crates above.
pub mod United
-- The worlds of what was merged, by path, are those of both, but for the bound one. Serves laws::meanings; crates above.
pub mod UnitedWorlds
-- Imports of one key and one sense stand for each other. Serves laws::matched; crates above.
pub mod WorldNamesakes
