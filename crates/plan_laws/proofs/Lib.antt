-- A name that stands inside a part is one of those that are met in its tree. Serves Gathered, InterfaceFunctions, OwnPlaces, Owned and 11 more; crates above.
pub mod MetNames
-- Where what is shown stands: a type in a view or as an import of a world, and a function in a whole view or in a world. Serves Apart, Gathered, InterfaceFunctions, OwnPlaces and 14 more; crates
-- above.
pub mod Sources
-- Each place without a path is of one world, or of one inline interface with one view. Serves Apart, Gathered, ShownAlike, ViewsAgree and 3 more; crates above.
pub mod OwnPlaces
-- Each name that the types of a plan use is shown in its own place. Serves laws::used_names_are_shown.
pub mod ShownNames
-- What is shown obeys the rules of reading. Serves laws::shown_obeys_rules; crates above.
pub mod ShownRules
-- Types that are planned are their owners', and are seen from there. Serves laws::planned_types_are_owned; crates above.
pub mod Owned
-- Views of one place show the same types. Serves Gathered, InterfaceFunctions, PlannedFunctions, ShownAlike and 7 more; crates above.
pub mod ViewsAgree
-- The imports of a world stand under keys that differ, and a world has a place of its own. Serves laws::planned_worlds_stand.
pub mod WorldKeys
-- What is exported at the top of a package: its interfaces, by the homes of their places. Serves laws::packages_are_ruled, laws::planned_types_are_whole; crates above.
pub mod WholeTypes
-- Each interface of another package is shown by a world, or imported by the component type of an interface. Serves laws::foreign_has_reasons, laws::whole_is_kept_for_reasons.
pub mod WholeReasonsForeign
-- Each place without a path is that of one view, or of one world. Serves laws::whole_stands_apart.
pub mod Apart
-- A type is declared as one and the same wherever it is shown, and views of a place that show functions show the same ones. Serves laws::whole_is_shown_alike; crates above.
pub mod ShownAlike
-- A function that a view shows is one that was read, where its values are. Serves laws::world_functions_are_read.
pub mod InterfaceFunctions
-- Each interface of the plan is read by the first view of its place. Serves laws::planned_interfaces_are_viewed.
pub mod Viewed
-- All functions of a whole plan are those that were read, each in its own place. Serves laws::planned_functions_are_read; crates above.
pub mod PlannedFunctions
-- The worlds of a plan show what worlds at the top do, and each view shows the types by which its place is read. Serves laws::whole_is_shown.
pub mod ShownWhole
-- The worlds of a plan become what worlds at the top show. Serves WholeCondition, WorldMeaning.
pub mod Gathered
-- The interfaces that worlds import and export, by the numbers of their places: no inline one is an item twice. Serves laws::planned_worlds_are_read.
pub mod WholeWorlds
-- A plan that was made of what was followed is one that was read, whole. Serves laws::planned_order_is_read, laws::whole_places_are_read.
pub mod WholePlan
-- A plan that was made of what was followed means what that means. Serves laws::plan_is_whole, laws::whole_may_be_planned; crates above.
pub mod WholeCondition
-- The plan of one world, beside the interfaces of its package that it shows, means what the world does. Serves laws::world_plan_is_whole; crates above.
pub mod WorldMeaning
