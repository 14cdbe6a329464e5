-- A key that is put into a table is put there once. Serves table::put.
pub mod AddLaws
-- A body has all the bytes of its items. Serves bodies::entries_alone, bodies::entries_from, bodies::held_items.
pub mod BodyLaws
-- Parts that are declared one after the other, each there already or the next one. Serves ComponentLaws, DefiningLaws, FollowingLaws, ScopeLaws and 4 more; crates above.
pub mod NumberingLaws
-- Facts about types, by those about their parts. Serves facts::labelled_fact, facts::summary_of, table::fact; crates above.
pub mod FactLaws
-- A table with one type more. Serves table::put.
pub mod TableGrowth
-- Types of values and of functions in tables that grow. Serves components::follow_component, defining::define, laws::one_function_number; crates above.
pub mod DefiningLaws
-- What a definition stands for is over the places that the slots are over. Serves ComponentLaws, FollowingLaws, PlacedScopes, SeeLaws and 2 more.
pub mod OverLaws
-- Names stay in their places as a scope goes on. Serves ComponentLaws, FollowingLaws, PlacedScopes, ScopeLaws and 4 more; crates above.
pub mod PlacedLaws
-- A refusal is passed on. Serves bodies::entries_alone, bodies::entries_from, bodies::entry_items, bodies::entry_of and 24 more; crates above.
pub mod Refusing
-- A scope of an instance type in tables that grow, and what each declaration does to it. Serves components::step, instances::step, seeing::see_instance, shows::show; crates above.
pub mod FollowingLaws
-- What is put into a list of things that each stand once. Serves functions::put, places::put.
pub mod JoinLaws
-- What the slots of a scope stand for, by number. Serves definition_keys::definition_of, shows::declared_by, signatures::function_in, slots::resource_in and 1 more; crates above.
pub mod SlotLaws
-- Places that are put into a table, each once. Serves instance_keys::path_number, places::are_apart, places::new_place, places::number_of and 2 more.
pub mod PlaceLaws
-- A scope of a component type in tables that grow, with something more in it. Serves components::follow_entries, seeing::see_function, seeing::see_instance, seeing::see_type; crates above.
pub mod ScopeLaws
-- Names stay in their places as a scope of a component type goes on. Serves ComponentLaws, SeeLaws, UsedLaws; crates above.
pub mod PlacedScopes
-- A declaration is read by its first bytes. Serves declarations::declaration_of.
pub mod DeclarationLaws
-- An entry is read by the bytes in front of it. Serves bodies::entry_items, bodies::entry_of, bodies::skip_entry.
pub mod EntryLaws
-- The scopes of types: a type is over names of its scope's place and of places with a path. Serves ComponentLaws, SeeLaws, StepLaws, UsedLaws; crates above.
pub mod ScopedLaws
-- One declaration of an instance type after the other. Serves instances::follow_body, instances::follow_instance, instances::step, signatures::params_in; crates above.
pub mod StepLaws
-- Types of functions that are followed as they are read: what they stand for is what those stand for that are read first. Serves defining::define_function_at, signatures::function_key_at,
-- signatures::outcome_in, signatures::param_in.
pub mod ReadKeyLaws
-- Sections in front of bytes, and those behind them. Serves instances::follow_body, sections::component_of, sections::custom_of, sections::frame_of and 1 more; crates above.
pub mod SectionLaws
-- One entry of a component type after the other. Serves components::enter, components::enter_front, components::enter_read, components::follow_component and 2 more; crates above.
pub mod ComponentLaws
-- The key of each form, from the parts that its indexes stand for. Serves definition_keys::borrow_key, definition_keys::definition_of, definition_keys::enum_key, definition_keys::fixed_list_key and 8
-- more.
pub mod DefinitionKeyLaws
-- What is behind a form that is read to find its end. Serves bodies::skip_declaration, bodies::skip_entry, bodies::skip_held, signatures::param_list_in and 8 more.
pub mod SkipLaws
-- Entries, the first of which is read already: the others are what is behind it, also where the entries are cut from the bytes. Serves bodies::entries_from, bodies::entry_items.
mod FirstLaws
-- What a reader from an offset answers at the front is what the function that reads the form finds there. Serves front::index_of, front::name_of, front::u32_of, sections::custom_of.
pub mod FrontReaders
-- Keys are the same exactly where their shapes are. Serves table::put.
pub mod KeyLaws
-- Rows, one after the other. Serves definition_keys::case_parts, definition_keys::enum_key, definition_keys::field_parts, definition_keys::flags_key and 4 more.
pub mod RowLaws
-- Keys of types of functions are the same exactly where their shapes are; and what a key is made of. Serves functions::put, signatures::function_key_at, signatures::function_key_of,
-- signatures::params_in and 1 more.
pub mod FunctionKeyLaws
-- Declarations of an instance type: those of which none is an import. Serves bodies::held_items, bodies::held_of.
pub mod HeldLaws
-- Keys that are looked up by number. Serves functions::key, table::key.
pub mod LookUpLaws
-- Tables of the names of types: how one is made, and that they stay those of their instances. Serves components::follow_entries, components::step, name_tables::slots_by_name, seeing::exported_slot.
pub mod NameTableLaws
-- A type at the top is read by the bytes in front of it. Serves part_types::part_behind_of.
pub mod PartTypeLaws
-- What the exports of an instance type show. Serves shows::declared_by, shows::show, shows::show_function, shows::show_type.
pub mod ShowLaws
-- What imports, exports and aliases of a component type show. Serves seeing::see_function, seeing::see_type.
pub mod SeeLaws
-- What instances of a component type show, and what they use. Serves seeing::see_instance, seeing::used_view.
pub mod UsedLaws
-- Value types by their first byte. Serves skips::skip_value, value::value_type_of.
pub mod ValueLaws
