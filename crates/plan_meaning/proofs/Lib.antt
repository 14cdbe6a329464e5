-- Lists and options that are made entry by entry of others. Serves Depths, DistinctKeys, FunctionNames, FunctionRules and 32 more; crates above.
pub mod Lists
-- In a table of shapes each number has a tree, and no tree has two numbers. Serves laws::shapes_are_trees; crates above.
pub mod ShapeLaws
-- The words of a plan, on the plan that a `Resolve` is built from, are those of the `Resolve`. Serves Depths, DistinctKeys, FunctionNames, FunctionRules and 25 more; crates above.
pub mod Words
-- The functions of a plan's interfaces and worlds are those of the `Resolve`, and so are its items. Serves Depths, FunctionNames, ItemOrder, Labels and 8 more.
pub mod FunctionRules
-- Types of values have at most so many unnamed levels. Serves Valid.
pub mod Depths
-- Names are labels, and lists of members don't repeat one. Serves DistinctKeys, Places, Valid.
pub mod Labels
-- What holds of the parts of a list, of the numbers that they become; the parts of a function in one list. Serves KeptFunctions, KeptOwners, KeptResources, KeptTypes and 4 more.
pub mod KeptParts
-- Interfaces that are read pass the tests of a plan on each interface by itself. Serves laws::read_interfaces_pass.
pub mod ReadInterfaces
-- Lists in which no number or no name stands twice. Serves ListedTypes, ReadOrder, ReadPlaces, ReadWholes and 2 more; crates above.
pub mod ReadLists
-- What a package lists is in range, of the package, and under its own name; packages are apart. Serves FunctionNames, NumbersInRange, Places, ReadPlaces and 4 more.
pub mod Listed
-- Each rule of reading on types, functions and interfaces has the same answer in numbers. Serves laws::rules_in_numbers; crates above.
pub mod NumberedRules
-- Worlds that are read pass the tests of a plan on each world by itself. Serves laws::read_worlds_pass.
pub mod ReadWorlds
-- Each named type of a plan that is read stands in its owner's list. Serves DistinctKeys, ReadOrder; crates above.
pub mod ListedTypes
-- No map of a built `Resolve` has a key twice. Serves Valid; crates above.
pub mod DistinctKeys
-- Functions stand under their names, and those of a resource are named and shaped after it. Serves NothingElse, Valid.
pub mod FunctionNames
-- One view of each path is enough. Serves laws::one_view_is_enough.
pub mod Gathering
-- What uses what, and what a world may have, has the same answer in numbers. Serves laws::uses_in_numbers, laws::worlds_in_numbers; crates above.
pub mod NumberedWorlds
-- Equal numbers are equal trees and equal types of functions, so views agree where their numbers do. Serves laws::numbers_tell, laws::views_agree_in_numbers.
pub mod NumberedViews
-- Members are a package, and a world stands alone, exactly where their numbers are. Serves laws::interfaces_in_numbers, laws::packages_in_numbers; crates above.
pub mod NumberedMembers
-- The types of a plan stand for the trees of the shapes that they are made of. Serves laws::trees_are_kept; crates above.
pub mod Renumbering
-- A plan that is gathered from views in numbers means what they mean. Serves laws::gathered_plans_are_meant; crates above.
pub mod GatheredPlan
-- The named types that numbers of a plan use are under no larger numbers. Serves KeptOwners, ReadOrder, ReadWholes, Rising and 1 more.
pub mod MetTypes
-- Lists of rising numbers: none stands twice, and what a number uses, being smaller, stands before it. Serves TypeOrder.
pub mod Rising
-- Shapes of kinds, and which kinds have names. Serves NothingElse, Owning, Valid, WorldItems.
pub mod KindRules
-- Items of worlds stand under their keys. Serves ItemOrder, Places, TypeOrder, Valid.
pub mod WorldItems
-- Types refer to smaller ones, and stand with their owners in order. Serves ItemOrder, Reaching, Valid; crates above.
pub mod TypeOrder
-- What an item of a world uses stands before it. Serves Reaching, Valid.
pub mod ItemOrder
-- Types of a plan that are those of kept shapes pass the tests on types. Serves laws::kept_types_pass; crates above.
pub mod KeptTypes
-- Functions whose types are those of kept shapes pass the tests on their types and their resource. Serves laws::kept_functions_pass.
pub mod KeptFunctions
-- What holds names of one place stays with the owner of that place. Serves laws::kept_owners_stand.
pub mod KeptOwners
-- The numbers of a plan that are resources are those of the parts that are marked. Serves laws::kept_resources_stand.
pub mod KeptResources
-- What a plan means, part by part, is what the `Resolve` means that is built from it. Serves PackageMeans, WorldAlone.
pub mod Meanings
-- Each interface of a plan of a package is reached from the package. Serves NothingElse, PackageMeans, WorldAlone.
pub mod Reaching
-- Every number is in range of its list, and no list is too long. Serves Valid.
pub mod NumbersInRange
-- What is met from types and functions of an owner belongs to it. Serves Valid.
pub mod Owning
-- Interfaces and worlds stand in the places that they say. Serves Valid.
pub mod Places
-- Which numbers are resources: the marks along a plan's types say what following aliases finds. Serves Valid.
pub mod ResourceMarks
-- What is built from a plan that was read is valid. Serves laws::plans_are_valid; crates above.
pub mod Valid
-- A package that is built from a plan of it means what the plan means. Serves laws::plans_are_meant; crates above.
pub mod PackageMeans
-- Nothing stands in what is built from a plan but what the plan means. Serves laws::nothing_else; crates above.
pub mod NothingElse
-- A worked example: the plan of a package of one world with functions means what its bytes mean, as a package and as a world. Serves no function.
mod OneWorldPlan
-- Functions that are read pass the tests of a plan on functions. Serves laws::read_functions_pass.
pub mod ReadFunctions
-- Packages, and the places of interfaces and worlds, that are read pass the tests of a plan on them. Serves laws::read_places_pass.
pub mod ReadPlaces
-- The interfaces that types of a plan use are those of the places that what was read uses. Serves ReadOrder, ReadWholes.
pub mod UsedInterfaces
-- What is read stands in the order that a plan asks for. Serves laws::read_order_passes; crates above.
pub mod ReadOrder
-- All that a plan is asked for holds of one that is read. Serves laws::read_plans_stand.
pub mod ReadPlans
-- Nothing stands without a reason in a plan that is read as a package or as one world. Serves laws::whole_plans_stand; crates above.
pub mod ReadWholes
-- Lemmas on the numbers of forms. Serves crates above.
pub mod ShapesLemmas
-- A worked example: the plan of two packages, with uses across them. Serves no function, only WholeBuilt.
mod WholePlan
-- The worked plan of two packages, built: valid, and of the plan's meaning. Serves no function.
mod WholeBuilt
-- A world that is built from a plan of it means what the plan means as a world. Serves laws::plans_are_meant; crates above.
pub mod WorldAlone
