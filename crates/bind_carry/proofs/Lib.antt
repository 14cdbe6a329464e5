-- Where copies of types stand, under the numbers that all types have. Serves Addable, FirstInterfaces, FirstNumbers, FirstOfUnion and 22 more; crates above.
pub mod CopiesPlaced
-- Where copies of things stand whose flags are set, under the numbers that are given to them one behind the other. Serves packages::new_package_list, whole::copy_worlds; crates above.
pub mod KeptPlaced
-- What a union adds, once it is added, has all that is carried by path. Serves laws::of_unions; crates above.
pub mod FirstOfUnion
-- Entries whose keys are new stand behind those that were there. Serves KeysGained, NamesGained, NamesMerged, SecondCarried and 1 more; crates above.
pub mod InsertedBehind
-- Names that a package gains weren't there, so they come behind what was. Serves Addable, NamesCopied, NamesMerged, PackagesFrom and 2 more; crates above.
pub mod NamesGained
-- What own packages gain is of packages that there are, and of none twice. Serves laws::of_unions; crates above.
pub mod Addable
-- What flags say that are set one after the other for the inline interfaces that are shown. Serves CountedCopies, FirstNumbers, SecondInitial; crates above.
pub mod Marking
-- As many are copied as pass a test, where each of these passes it, and each that passes it is copied. Serves crates above.
pub mod CountedCopies
-- How many are copied. Serves fates::copy_types, moved::move_types, whole::move_interfaces; crates above.
pub mod Counting
-- Names that a package gains join those that it had. Serves FirstInterfaces, FirstWorlds, NamesCopied, SecondCarried; crates above.
pub mod Joined
-- Which types are needed: marks stay, what is named is marked, and so are parts of what is copied in the end. Serves needs::mark_needed.
pub mod Needed
-- With its owner, all that a type or a function refers to is carried: by the rule on owners, from the smaller numbers on. Serves laws::parts.
pub mod PartsCarried
-- What becomes of types in the end, place by place: a type without a name is copied exactly where all its parts are carried, if anything is added. Serves FirstInterfaces, PassedTypes, Ready,
-- SecondCarried and 2 more.
pub mod SettledParts
-- Types that a pass copies: each stands under its new number, and all its parts are carried. Serves FirstInterfaces, FirstNumbers, FirstWorlds, SecondCarried and 1 more.
pub mod PassedTypes
-- What is copied of interfaces: each stands under its new number, with its types and its functions. Serves FirstNumbers, FirstWorlds, KeysGained, SecondCarried and 2 more; crates above.
pub mod FirstInterfaces
-- A valid `Resolve` is in range. Serves FirstNumbers, FirstWorlds, KeysGained, NamesCopied and 6 more; crates above.
pub mod Ranges
-- Worlds that are carried by path have numbers of their own, and packages stand in packages of their names. Serves FirstWorlds, KeysGained, NamesCopied, NamesMerged and 5 more; crates above.
pub mod FirstNumbers
-- The pass over what the bound world gains begins as it should: what it copies is of the bound world, or of an inline interface that is gained. Serves KeysGained, Ready, SecondCarried, SecondItems
-- and 2 more; crates above.
pub mod SecondInitial
-- What is carried of a `Resolve` in range can be copied, and so can what the bound world gains. Serves FirstWorlds, KeysGained, Planning, SecondCarried and 1 more; crates above.
pub mod Ready
-- What validity says of the keys of a world, and when a key is new under other numbers. Serves KeysGained, SecondCarried, SecondItems, SecondPass and 1 more; crates above.
pub mod WorldEntries
-- Keys of the other's bound world stay apart under both numberings, and what is gained of them comes behind what was there. Serves FirstWorlds, SecondCarried, UnionDistinct, UnionKeys; crates above.
pub mod KeysGained
-- Worlds that are copied: all that their items name is carried, so each is a copy as the laws on unions ask for it. Serves laws::first_pass; crates above.
pub mod FirstWorlds
-- A test of all that is in flattened lists. Serves parts::is_map_carried, parts::is_result_carried.
pub mod Flat
-- What packages gain, one after the other. Serves packages::gained_names.
pub mod Gaining
-- Numbers that are marked one list after the other. Serves needs::mark_function, needs::mark_id, needs::mark_map, needs::mark_record and 3 more.
pub mod MarkedNumbers
-- Names that are copied into a map one behind the other, those that a test passes. Serves packages::interface_names, packages::world_names.
pub mod NamesCopied
-- No map of what was merged has a key twice: what is inserted keeps keys apart, and copies have the names of what they are of. Serves added_laws::added_apart, added_laws::added_distinct; crates
-- above.
pub mod UnionDistinct
-- Each package of the other stands in one of what is merged: in a new one with all its names, or in the own one of its name, behind the names that were there. Serves MergedUnion.
pub mod PackagesStand
-- Each package that is merged is an own one to which nothing comes, or one of the other stands in it. Serves SecondCarried.
pub mod PackagesFrom
-- What the second pass looks at: items that are types, labels, lists, and inline interfaces that are shown once. Serves SecondCarried, SecondPass, WhatComes.
pub mod SecondItems
-- The second pass, over what the bound world gains: it is carried and copied as the laws on unions ask for it, and the bound world stands as it was, with what it gains behind what it had. Serves
-- SecondCarried; crates above.
pub mod SecondPass
-- What the second pass carries, and that it is copied and joined as the laws on unions ask for it: interfaces, worlds, and the bound world with what it gains. Serves laws::second_pass; crates above.
pub mod SecondCarried
-- What a union adds, once it is added, is merged. Serves merged::merged_unions; crates above.
pub mod MergedUnion
-- Each type without a name that is copied is named by something that comes. Serves WhatComes; crates above.
pub mod MetTypes
-- Things that are moved one after the other to the places that were made for them. Serves moved::move_types, moved::type_places, whole::move_interfaces; crates above.
pub mod Moving
-- The names in packages once all is added: own ones, each package's followed by what is new in it, and then those of new packages. Serves added_laws::added_names; crates above.
pub mod NamesMerged
-- What a union adds, once what is moved is in its places. Serves crates above.
pub mod Planning
-- Types that meet their fates one by one. Serves fates::copy_types.
pub mod Settling
-- All exports of the other's bound world are added, under the keys that are answered. Serves added_laws::added_keys; crates above.
pub mod UnionKeys
-- What is copied of types: those whose owners are, types that new imports are, and types without a name that are made of what is carried. Serves crates above.
pub mod WhatComes
