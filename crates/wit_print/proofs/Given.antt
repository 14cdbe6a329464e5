-- What an interface or a world of valid packages has can be handed in to be printed.
use Rattle.std.proofs.Common.{rules as std_rules, ◌≡◌, true, ℕ}
use Rattle.std.specs.List.{list_all}
use Rattle.wit_model.specs.declared.model.{Resolve.Resolve, WorldItem.WorldItem, WorldKey.WorldKey}
use Rattle.wit_model.specs.{Rules.in_list, Rules.passes, Valid.item_function}
use Rattle.print_items.specs.Shown.{Listed, imported_functions, listed_functions, listed_imports, listed_types, type_of_entry}
use Rattle.print_packages.specs.GivenTypes.{behind}
use Rattle.print_uses.specs.UseGroups.{is_listed_function, is_listed_type}
use Rattle.print_uses.proofs.{Declarations.types_listed, Valid.interface_functions, Valid.is_known_listed, WellLists.all_both, WellLists.given_well}
use Rattle.print_packages.proofs.ValidWorlds.{is_known_entry, entry_function_known, world_is_shown}
use Rattle.wit_print.specs.Given.{FunctionsCanBeGiven, TypesCanBeGiven, WorldFunctionsCanBeGiven, WorldTypesCanBeGiven}
use Rattle.base_lemmas.proofs.{Elements.all-contained, Elements.all_pass as all-of}
use Rattle.wit_model.specs.declared.model.TypeOwner.TheVariants as owner

pub types_can_be_given : TypesCanBeGiven
types_can_be_given r id i valid at given are = all-of (is_listed_type r (owner.Interface id)) given
    (λ t c. all-contained (is_listed_type r (owner.Interface id)) (listed_types i) t (types_listed r valid id i at) (are t c))

pub functions_can_be_given : FunctionsCanBeGiven
functions_can_be_given r id i valid at entries are = all-of (λ entry. list_all (is_listed_function r (owner.Interface id)) (behind entry.1)) entries
    (λ e c. all-of (is_listed_function r (owner.Interface id)) (behind e.1)
    (λ f d. all-contained (is_listed_function r (owner.Interface id)) (listed_functions i) f (interface_functions r valid id.0 i at) (are e c f d)))

-- ---- worlds

-- a type that a world imports is in the list of types
entry_in_range : (r : Resolve) (n : ℕ) (k : WorldKey) (i : WorldItem) → is_known_entry r n (k, i) ≡ true → passes (λ (t : Listed). in_list r.types.items t.id.0) (type_of_entry k i) ≡ true
entry_in_range r n x i h = search std_rules

pub world_types_can_be_given : WorldTypesCanBeGiven
world_types_can_be_given r id w valid at given are =
    let shown = world_is_shown r valid id.0 w at in
    let inside = given_well (is_known_entry r id.0) (λ e. type_of_entry e.0 e.1) (λ (t : Listed). in_list r.types.items t.id.0) (λ e k. entry_in_range r id.0 e.0 e.1 k) w.imports.entries
    shown.imports in
    let all = all_both (λ (t : Listed). in_list r.types.items t.id.0) (is_known_listed r (owner.World id)) (listed_imports w) inside shown.types in
    all-of (is_listed_type r (owner.World id)) given (λ t c. all-contained (is_listed_type r (owner.World id)) (listed_imports w) t all (are t c))

pub world_functions_can_be_given : WorldFunctionsCanBeGiven
world_functions_can_be_given r id w valid at entries are =
    let shown = world_is_shown r valid id.0 w at in
    let all = given_well (is_known_entry r id.0) (λ e. item_function e.1) (is_listed_function r (owner.World id)) (λ e k. entry_function_known r valid id.0 e.0 e.1 k) w.imports.entries
    shown.imports in
    all-of (λ entry. list_all (is_listed_function r (owner.World id)) (behind entry.1)) entries
    (λ e c. all-of (is_listed_function r (owner.World id)) (behind e.1) (λ f d. all-contained (is_listed_function r (owner.World id)) (imported_functions w) f all (are e c f d)))
