-- What is shown of types is their plain trees. Serves Declared, Functions, Uses.
pub mod Types
-- What is shown of a declared type is its plain tree. Serves Functions, Owners.
pub mod Declared
-- What is shown of functions is their plain trees. Serves Externs, Resources.
pub mod Functions
-- The functions that are shown of a resource are those that it has. Serves Interfaces, Owners, Parts, WorldParts; crates above.
pub mod Resources
-- What is shown of a use is the use, grouped with others or not. Serves Owners, Parts, WorldParts; crates above.
pub mod Uses
-- What is shown of an interface, taken apart. Serves Interfaces, Owners, WorldParts, Worlds.
pub mod Parts
-- Lists that have the same entries in some order. Serves Owners; crates above.
pub mod Shuffles
-- What is shown of the types and functions of an owner is what states them. Serves Interfaces, Worlds.
pub mod Owners
-- What paths and names mean is shown by the same paths. Serves Externs, Interfaces, Worlds.
pub mod Targets
-- What is shown of an interface is the members that it has. Serves laws::interfaces_are_shown.
pub mod Interfaces
-- What is shown of an import or an export is what states it. Serves WorldParts, Worlds.
pub mod Externs
-- The entries of a world's imports: interfaces, then types, then functions. Serves WorldParts, Worlds.
pub mod WorldEntries
-- What is shown of a world, taken apart. Serves Worlds.
pub mod WorldParts
-- What is shown of a world is the members that it has. Serves laws::worlds_are_shown.
pub mod Worlds
-- What is shown of a package is what the files declare. Serves laws::packages_are_shown.
pub mod Packages
