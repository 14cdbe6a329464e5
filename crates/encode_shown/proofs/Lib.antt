-- Lists of texts in which none stands twice. Serves Interfaces, PackageTypes, Worlds.
pub mod Apart
-- What a rule that is kept says of an entry, and owners. Serves Dependencies, Functions, Items, Members and 7 more; crates above.
pub mod Basics
-- What stands in a declared form: its labels, and the trees of the parts of the kind. Serves Parts.
pub mod Children
-- What validity says of an import and of an export of a world. Serves Items, Keys, WorldMeans, Worlds; crates above.
pub mod Entries
-- The keys of the imports, and of the exports, of a world are texts of which none stands twice. Serves Dependencies, Items, Worlds.
pub mod Keys
-- The types of an interface's list: each is a named type of the interface, under its name, and they are all of those. Serves Dependencies, Interfaces, Items, Owning and 1 more; crates above.
pub mod Members
-- Which interfaces are a package's own, by their paths. Serves Dependencies, PackageSights, PackageTypes, Packages and 1 more; crates above.
pub mod Owning
-- The types of an owner, as parts of others: the names in them are of the owner's place. Serves Dependencies, Functions, Interfaces, Used; crates above.
pub mod Parts
-- The paths that a declaration uses are those of the interfaces that it uses. Serves PackageSights, Reach, Worlds; crates above.
pub mod Used
-- Which interfaces are reached: what a chain of uses leads to, and no others. Serves Dependencies, PackageSights; crates above.
pub mod Reach
-- A function of an owner obeys the rules in the owner's place. Serves Interfaces, Items.
pub mod Functions
-- What shows an interface of a valid `Resolve` obeys the rules of interfaces, and means the interface. Serves laws::interfaces_are_meant, laws::types_are_meant; crates above.
pub mod Interfaces
-- Two lists, place by place, and elements of lists that are made from others. Serves Dependencies, Items, PackageSights, PackageTypes and 3 more; crates above.
pub mod Zips
-- What shows an import or an export of a valid world obeys the rules of items. Serves WorldMeans, Worlds; crates above.
pub mod Items
-- Sights of interfaces of a valid `Resolve` agree, obey the rules, and together mean the interfaces. Serves PackageSights, Packages, WorldMeans.
pub mod Sights
-- What shows a world of a valid `Resolve` obeys the rules of worlds. Serves laws::worlds_are_meant; crates above.
pub mod Worlds
-- What shows a world of a valid `Resolve` means the world, with the interfaces that it shows. Serves laws::worlds_are_meant; crates above.
pub mod WorldMeans
-- The component type of an interface of a valid `Resolve`, and the wrapper of a world, are read as parts of their package. Serves laws::parts_are_read; crates above.
pub mod Dependencies
-- What is seen in the members of a package: of each interface that the package reaches, and of no other. Serves Packages; crates above.
pub mod PackageSights
-- Lists of the same entries make the same finite map, where a name has one meaning. Serves Packages.
pub mod SameEntries
-- The members that show a package of a valid `Resolve` mean the package. Serves laws::packages_are_meant.
pub mod Packages
-- The sections of a component that exports the component types of a package, or of one world, mean it. Serves laws::bytes_are_meant, laws::labels_differ, laws::sections_are_meant; crates above.
pub mod PackageTypes
