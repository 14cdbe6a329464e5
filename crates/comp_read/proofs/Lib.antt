-- The views that the component type of an interface gives are those of its instances. Serves Followed, Inputs, Members, OwnViews and 4 more.
pub mod InterfaceViews
-- The interfaces of a world's package that it shows: each is seen by a view of the world. Serves own::add_interface, own::add_view, own::interfaces_among.
pub mod OwnViews
-- The order in which views are shown, in numbers and in paths. Serves worlds::built_world.
pub mod ShownOrder
-- The places of a beginning among all places, each where it stands first. Serves CutOrder, NamedOrder.
pub mod Cuts
-- Lists that are looked through, and numbers that stand once. Serves Followed, Inputs, Members, ReadOrder and 1 more.
pub mod Lists
-- The members of an input, beside what was followed and what the rules of reading make of it. Serves laws::read_members_stand.
pub mod Members
-- The instances of what was followed stand under the paths that the parts show, in their order. Serves CutOrder, Followed, NamedOrder, PackageOrder and 2 more.
pub mod ShownScopes
-- What was followed is the input of the laws of whole plans: each world and each inline interface has a place of its own, and views stand in the order of the table. Serves laws::read_firsts_rise,
-- laws::read_is_input, laws::read_members_are_in, laws::read_members_are_named and 1 more.
pub mod Inputs
-- Types are numbered in the order of the interfaces that show them. Serves CutOrder, NamedOrder, NumberedOrder, PackageOrder and 1 more.
pub mod TypeNumbers
-- Packages are numbered in the order in which what was followed shows them. Serves NumberedOrder, ReadOrder.
pub mod PackageOrder
-- Types are numbered in the order in which they are declared. Serves CutOrder, NamedOrder, ReadOrder.
pub mod NumberedOrder
-- The types of interfaces that had been shown at a cut have smaller numbers than it, and those of others don't. Serves NamedOrder.
pub mod CutOrder
-- Instances of worlds stand under their keys, imports are counted, and what interfaces import is bare. Serves laws::read_imports_are_bare, laws::read_labels_stand, laws::read_places_are_met,
-- laws::read_worlds_are_followed and 3 more.
pub mod Followed
-- The types that are named by then have smaller numbers than those that are named later. Serves ReadOrder.
pub mod NamedOrder
-- The interfaces of a world's package that it shows, as they are meant: each is shown as the world shows it. Serves WorldReadLaws.
pub mod OwnTrees
-- A package that was followed is the input of the laws of packages. Serves laws::package_views_obey, laws::read_is_package_input, laws::read_lengths_fit, laws::read_names_have_kinds and 1 more.
pub mod Whole
-- A package that was followed and read: what was followed is whole, and so is the plan of it, which means what the input does. Serves laws::read_may_be_planned, laws::read_members_are_input,
-- laws::read_package_is_whole, laws::read_packages_have_sources and 1 more.
pub mod ReadPackages
-- The package of members that were read of what was followed. Serves decoding::decode, decoding::decode_world, decoding::wanted_in, packages::main_of and 2 more.
pub mod ReadLaws
-- One world of members that were read of what was followed. Serves laws::read_world_is_whole, laws::read_world_plans_are_meant, worlds::built_world, worlds::one_world and 1 more.
pub mod WorldReadLaws
-- What is decoded stands in the order in which the bytes show it. Serves decoding::decode, decoding::decode_world, packages::package_of_members, reading::wanted_of_members and 1 more.
pub mod ReadOrder
-- What is built of the plan of one world. Serves packages::package_of_members, worlds::built_world.
pub mod WorldLaws
