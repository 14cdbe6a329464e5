-- The declarations of an instance type, followed one by one. Serves Calls, Components, Directions, Placed and 4 more.
pub mod Steps
-- The declarations of a component type, followed one by one. Serves Imported, Opening, Outside, Placed and 7 more; crates above.
pub mod Components
-- What one more declaration adds to what has been declared in a scope. Serves Calls, Importing, Outside, WorldCalls and 2 more; crates above.
pub mod Contents
-- A definition that can be followed stands for one tree alone, and where that is well formed it can be followed strictly. Serves Calls, Declaring, Outside, ShowFunctions and 2 more.
pub mod Strict
-- What a declaration of a place is followed as, where its name is exported or imported. Serves Calls, WorldCalls.
pub mod Declaring
-- The slots in which value types are defined: which they are, and that each stands for a type without a name. Serves Calls, Counting, DefinedTypes, Outside and 5 more.
pub mod ValueSlots
-- What the calls of an encoder of interfaces do to what it holds. Serves Counting, Importing, Opening, Outside and 5 more.
pub mod Calls
-- A name in a place is that of one type among those that are met, so the names of resources are those of the types that are resources. Serves Encodable, ImportsStand, OwnerScope, ShownSlots and 4
-- more.
pub mod Naming
-- Instances of the interfaces that have been imported stand. Serves component_types::interface_type, laws::imports_stand; crates above.
pub mod ImportsStand
-- One instance more, which is listed as that of its interface. Serves Aliases, DependencyAliases, Imported, Importing and 2 more; crates above.
pub mod LatestInstances
-- One alias more in a component type: what it shows, and what an instance type in it reads. Serves Importing, WorldCalls.
pub mod Wider
-- What the calls of an encoder of interfaces do between interfaces: then what is defined stands in the component type. Serves interface::new.
pub mod Outside
-- The calls of an encoder of interfaces, by whether it is encoding one. Serves interface::define_function_type, interface::defined_type, interface::export_resource, interface::export_type and 2 more.
pub mod Within
-- A type of another interface whose instance stands around is reached by an alias there. Serves interface::import_type, interface::make_alias, interface::reach; crates above.
pub mod Importing
-- What a component type has imported, after aliases, and after one instance type more and the import or export that uses it. Serves component_types::interface_type, laws::exports_end,
-- laws::imports_grow; crates above.
pub mod Imported
-- The aliases in the component type of an interface. Serves component_types::interface_type.
pub mod DependencyAliases
-- Lists of numbers: what stands before a place, what stands once, and what is given by one element alone. Serves Aliases, Exporting, ListedTypes, WorldLists and 1 more.
pub mod Numbers
-- The names under which instances have been imported and exported stay, but for that of a new one. Serves component_types::interface_type, world::encode_entries, world::encode_function,
-- world::encode_interface and 1 more.
pub mod WrittenNames
-- An instance more in the component type of a world: it is the latest one of its interface, and the aliases stay. Serves world::import_type.
pub mod Aliases
-- Where declarations stand: the type of a function and an instance type just before the import or export that has it, types before functions. Serves world::encode_function, world::encode_interface,
-- world::encode_type.
pub mod Places
-- The keys of functions whose lists maps hold. Serves interface::encode_parts.
pub mod HeldKeys
-- Which functions of an interface have no room, call after call. Serves interface::encode_function, interface::encode_functions, interface::encode_parts.
pub mod FunctionRoom
-- What has no room in an encoder of interfaces, where a call has refused it. Serves interface::define_function_outside, interface::define_function_type, interface::define_outside,
-- interface::defined_type and 15 more.
pub mod Refusing
-- What is met from a type of an owner is of that owner, but for what its aliases of types of other interfaces name. Serves ListedTypes, OwnerScope, Reached, UsedPaths and 2 more.
pub mod Owned
-- The types of an interface in valid packages: each stands in the list once, under its name, behind those of the list that it uses. Serves Exporting, Reached, ShownSlots, UsedPaths.
pub mod ListedTypes
-- The trees of valid kinds are well formed, where the names stand for resources as their types do. Serves OwnerScope, Validity.
pub mod Forming
-- What a valid `Resolve` gives for encoding. Serves DefinedTypes, Encodable, MetKinds, OwnerScope and 3 more.
pub mod Validity
-- All that is met from the types and functions of an owner can be encoded in its scope, where an instance of each interface that it uses stands. Serves laws::functions_encode, laws::names_encode,
-- laws::table_scope_is_of_owner, laws::types_encode; crates above.
pub mod OwnerScope
-- Imports and exports of a component type, in order: what declarations add to them, and that no import stands behind an export. Serves WorldCalls, WorldFunctions, WorldHolding, WorldInterfaces and 2
-- more.
pub mod Directions
-- What stands in a list that was mapped or filtered. Serves Counting, Weighing, WorldShown.
pub mod Mapped
-- Named types that are met through unnamed ones: where all of them are known, no named type of the place is met by way of unknown numbers. Serves Exporting, UsedPaths, WorldFunctions, WorldShown.
pub mod Meeting
-- What an encoder of a world shows after a call that defines, imports and reaches types. Serves laws::items_meet_standing; crates above.
pub mod WorldShown
-- What is met from the types and functions of an interface, or of a world, is counted in its weight. Serves DefinedTypes, DependencyWeighing, ExtentWeighing, Weighing and 1 more.
pub mod Reached
-- Which value types a scope defines, from what has been defined call by call. Serves Counting, Referring, WorldHolding.
pub mod DefinedTypes
-- How much is defined for functions, and by an instance type as a whole. Serves interface::encode_function, interface::encode_functions, interface::encode_inside, interface::encode_parts and 1 more.
pub mod Counting
-- Maps that began empty hold the kinds of the unnamed types that are met, each once. Serves laws::met_kinds_are_held.
pub mod MetKinds
-- What the slots of the types stand for that an instance type shows: each for the name of its type, and for that of a resource exactly where the name is one. Serves Opening.
pub mod ShownSlots
-- An interface that is opened, encoded and closed again. Serves interface::encode_inside, interface::encode_instance, interface::encode_part, world::define_dependency and 1 more.
pub mod Opening
-- What the types and functions of an interface meet, and what maps learn of it, type by type and function by function. Serves interface::encode_function, interface::encode_functions,
-- interface::encode_inside, interface::encode_instance and 2 more.
pub mod Referring
-- What the calls of an encoder of a world do to its component type. Serves world::define_function_type, world::defined_type, world::encode_function, world::export_resource and 2 more.
pub mod WorldCalls
-- Which types of listed interfaces have an alias in a component type, and how much it holds beside them. Serves world::define_function_type, world::defined_type, world::encode_entries,
-- world::encode_function and 6 more.
pub mod WorldHolding
-- An instance type that is declared in a component type behind aliases, and imported or exported there: how much is declared by then, and what of it defines types. Serves
-- interface::define_function_type, interface::defined_type, interface::encode_function, interface::encode_parts and 3 more; crates above.
pub mod Placed
-- The component type of an interface: how much is held and defined after each import, and why a call has no room. Serves component_types::import_dependency, component_types::interface_type; crates
-- above.
pub mod DependencyHolding
-- An interface that another uses has a path. Serves DependencyWeighing, ImportLoop, WorldInterfaces.
pub mod UsedPaths
-- Interfaces imported one after the other, in the order in which they are reached. Serves component_types::import_dependencies, component_types::interface_type; crates above.
pub mod ImportLoop
-- An interface that has no room in an instance type weighs more than the largest number of 32 bits. Serves laws::lacking_interfaces_are_heavy.
pub mod Weighing
-- The types that are exported as those of an interface are encoded, one for each, in order. Serves interface::encode_instance, interface::encode_types.
pub mod Exporting
-- How long the bytes of parts of a component are at most. Serves BytesWritten, Extents, PackageRoom; crates above.
pub mod Lengths
-- How many bytes are written at most of a definition, of the type of a function and of a name, and that types and functions weigh no less. Serves component_types::import_dependency,
-- component_types::interface_type, interface::define_function_type, interface::defined_type and 8 more.
pub mod Extents
-- A world that has no room in a component type weighs more than the largest number of 32 bits. Serves laws::lacking_worlds_are_heavy, world::encode_entries, world::encode_function,
-- world::encode_interface and 1 more.
pub mod WorldFunctions
-- An interface that has no room in a component type of its own weighs more than the largest number of 32 bits. Serves component_types::interface_type.
pub mod DependencyWeighing
-- What the parts of an instance type take in sum is no more than its interface weighs. Serves laws::types_and_functions_are_light.
pub mod ExtentWeighing
-- What is written of the component type of an interface, and of that of a world, is no more in sum than they weigh. Serves laws::types_and_functions_are_light.
pub mod ComponentExtents
-- How many bytes have been declared, call after call. Serves component_types::import_dependencies, component_types::import_dependency, component_types::interface_type, interface::define_function_type
-- and 19 more.
pub mod BytesWritten
-- What an instance type that is closed shows: the interface, or its types alone. Serves interface::encode_dependency, interface::encode_instance, interface::encode_part.
pub mod Closing
-- What stays over the functions of an interface. Serves interface::encode_function, interface::encode_functions, interface::encode_parts.
pub mod Continuing
-- An interface meets types of its own, and types of interfaces that it uses: where these stand around, all of it can be encoded. Serves interface::encode_dependency, interface::encode_instance,
-- laws::interface_uses_dependencies; crates above.
pub mod Encodable
-- Functions export no type, where each named type that they use is known. Serves interface::encode_function, interface::encode_functions, interface::encode_instance, interface::encode_parts.
pub mod FunctionExports
-- Functions that are sorted by the places of their resources. Serves order::functions_in_order, order::place_of, order::places_of.
pub mod Ordering
-- Component types that are added one after the other. Serves package::add_interface, package::add_world, package::add_worlds, package::interfaces_component and 1 more.
pub mod Packages
-- A component with the component types of a package means the package. Serves package::encode, package::encode_component; crates above.
pub mod WholePackages
-- A component in which the component types of a package have no room: the package is too heavy. Serves package::add_interface, package::add_world, package::add_worlds, package::encode and 2 more;
-- crates above.
pub mod PackageRoom
-- What the paths of imports are refused for, the component type of the interface is refused for. Serves component_types::interface_type.
pub mod Scopes
-- A function that is exported from an instance type. Serves interface::export_function.
pub mod ShowFunctions
-- A component type whose declarations can be followed, each resource in a slot of its kind, stays so behind aliases and an instance type. Serves interface::encode_part.
pub mod StillSound
-- An encoder of an interface of valid packages over one table: what can be encoded in it, and that it stays one. Serves crates above.
pub mod Tables
-- A component type in which all imports and exports of a world are shown is that of the world. Serves world::encode_entries, world::encode_world.
pub mod WholeWorlds
-- An interface of a world, imported or exported behind what has been: its instance type shows it, and from then on its instance stands. Serves world::encode_interface; crates above.
pub mod WorldInterfaces
-- A type of a world, imported behind what has been: nothing else that is named in the world is learnt with it. Serves world::encode_interface, world::encode_items, world::encode_type.
pub mod WorldLists
