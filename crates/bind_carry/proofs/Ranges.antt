-- A valid `Resolve` is in range.
use Rattle.bind_carry.proofs.CopiesPlaced.{by_test}
use Rattle.base_lemmas.proofs.{Bools.left_of as first_true, Bools.right_of as second_true, Lists.within_there as there}
use Rattle.bind_carry.specs.{BoundGains.are_types_below, Fates.FallBelow, InRange.IsInRange, Listed.IsHomeBelow, Listed.IsOwnerBelow, Listed.are_interfaces_below, Listed.are_worlds_below, Shown.AreNewShownBelow, Shown.AreShownBelow, Shown.IsShownBelow}
use Rattle.bind_carry.specs.Shown.{are_keys_below, type_in}
use Rattle.bind_copy.specs.Copies.{AreEntriesBelow, AreFunctionsBelow, IsFunctionBelow, IsItemBelow, all_below, are_names_below, are_params_below, call_numbers, key_numbers}
use Rattle.bind_union.proofs.{Carrying.references_of, Carrying.refers_below, Images.given_numbers, Images.numbers_cons, Images.numbers_of_view}
use Rattle.indexmap.specs.IndexMap.{values}
use Rattle.std.proofs.Common.{List, Option, Some, [], ap, filter_map, length, ltb-true, map, nat_lt, option_to_list, refl, rules as std_rules, slice_get, sym, true, ℕ, ◌&&◌, ◌∙◌, ◌∷◌, ◌≡◌, ◌≤◌}
use Rattle.std.proofs.lemmas.{Bool.ltb-false, List.Elements.filter_map-append, List.Folds.list_all-append, List.Folds.list_all-map}
use Rattle.std.specs.{List.list_all, Option.option_map_or, Prelude.String, declared.alloc.Global.Global}
use Rattle.wit_model.proofs.{Entries.lists_pass, OnePath.interface-passes, OnePath.package-passes, RulesLemmas.each_at}
use Rattle.wit_model.specs.{Lookup.interface_at, Lookup.package_at, Lookup.resource_of, Lookup.type_at, Lookup.world_at, Parts.kind_numbers, Types.number_of, Valid.IsValid, Valid.Keeps, Valid.is_place, Valid.numbers_in_range, declared.model.Function.Function}
use Rattle.wit_model.specs.Rules.{entries_in_range, function_in_range, in_list, item_in_range, key_in_range, owner_in_range, package_number, passes}
use Rattle.wit_model.specs.declared.model.{FunctionKind.FunctionKind, Interface.Interface, Package.Package, PackageId.PackageId, Param.Param, Resolve.Resolve, TypeDef.TypeDef, TypeOwner.TypeOwner, World.World, WorldItem.WorldItem, WorldKey.WorldKey}

-- ---- functions

params_below : (count : ℕ) (ps : List Param) → list_all (λ n. nat_lt n count) (filter_map number_of (map (λ p. p.ty) ps)) ≡ are_params_below count ps
params_below count [] = refl
params_below count (p ∷ ps) = search (std_rules, numbers_cons, list_all-append, params_below count ps)

call_is : (k : FunctionKind) → option_to_list (resource_of k) ≡ call_numbers k
call_is x = search std_rules

module _ (r : Resolve) where
  abbrev types : ℕ
  types = length r.types.items

  function_below : (f : Function) → function_in_range r f ≡ true → IsFunctionBelow types f
  function_below f h = search (std_rules, call_is, second_true, params_below, first_true, given_numbers, list_all-append, filter_map-append)

  functions_below : (es : List (String Global × Function)) → list_all (function_in_range r) (map (λ (e : String Global × Function). e.1) es) ≡ true → AreFunctionsBelow types es
  functions_below [] h = tt
  functions_below (e ∷ es) h = (
    function_below e.1 (first_true (function_in_range r e.1) (list_all (function_in_range r) (map (λ (x : String Global × Function). x.1) es)) h),
    functions_below es (second_true (function_in_range r e.1) (list_all (function_in_range r) (map (λ (x : String Global × Function). x.1) es)) h),
  )

  -- ---- items

  key_below : (k : WorldKey) → key_in_range r k ≡ true → all_below (length r.interfaces.items) (key_numbers k) ≡ true
  key_below x h = search std_rules

  item_below : (i : WorldItem) → item_in_range r i ≡ true → IsItemBelow (length r.interfaces.items) types i
  item_below x h = search (std_rules, ltb-true, function_below)

  entries_below : (es : List (WorldKey × WorldItem)) → entries_in_range r es ≡ true → AreEntriesBelow (length r.interfaces.items) types es
  entries_below [] h = tt
  entries_below (e ∷ es) h = search (std_rules, first_true, second_true, key_below, item_below, entries_below es (second_true (key_in_range r e.0 && item_in_range r e.1) (entries_in_range r es) h))

  -- ---- homes

  home_below : (p : Option PackageId) → passes (in_list r.packages.items) (package_number p) ≡ true → IsHomeBelow (length r.packages.items) p
  home_below x h = search std_rules

  owner_below : (o : TypeOwner) → owner_in_range r o ≡ true → IsOwnerBelow (length r.interfaces.items) (length r.worlds.items) o
  owner_below x h = search std_rules

-- ---- lengths

-- a list whose elements all have a place isn't too long
few_of : {X : Type 0} (xs : List X) → ((n : ℕ) (x : X) → slice_get xs n ≡ Some x → is_place n ≡ true) → length xs ≤ 4294967295
few_of xs places =
    by_test (nat_lt 4294967295 (length xs)) (λ e. let x = there xs 4294967295 (ltb-true 4294967295 (length xs) e) in absurd (no_place (places 4294967295 x.0 x.1)))
    (λ e. ltb-false 4294967295 (length xs) e)
  where
    no_place : is_place 4294967295 ≡ true → ⊥
    no_place h = cc

-- ---- all of it

module _ (r : Resolve) (valid : IsValid r) where
  rule : Keeps numbers_in_range r
  rule = valid.rules.numbers_in_range

  type-passes : (n : ℕ) (def : TypeDef) → type_at r n ≡ Some def → numbers_in_range.type_ r n def ≡ true
  type-passes n def at = each_at (numbers_in_range.type_ r) r.types.items n def (lists_pass numbers_in_range r rule).3 at

  record PackageFacts (n : ℕ) (p : Package) : Type 0 where
    place : is_place n ≡ true
    interfaces : are_interfaces_below (length r.interfaces.items) p.interfaces.entries ≡ true
    worlds : are_worlds_below (length r.worlds.items) p.worlds.entries ≡ true

  package_facts : (n : ℕ) (p : Package) → package_at r n ≡ Some p → PackageFacts n p
  unfolding numbers_in_range
  package_facts n p at =
      let h = package-passes numbers_in_range r rule n p at in
      let rest = second_true (is_place n) (list_all (λ id. in_list r.interfaces.items id.0) (values p.interfaces) && list_all (λ id. in_list r.worlds.items id.0) (values p.worlds)) h in
      record {
        place = first_true (is_place n) (list_all (λ id. in_list r.interfaces.items id.0) (values p.interfaces) && list_all (λ id. in_list r.worlds.items id.0) (values p.worlds)) h;
        interfaces = sym (list_all-map (λ id. in_list r.interfaces.items id.0) (λ e. e.1) p.interfaces.entries) ∙ first_true (list_all (λ id. in_list r.interfaces.items id.0) (values p.interfaces))
            (list_all (λ id. in_list r.worlds.items id.0) (values p.worlds)) rest;
        worlds = sym (list_all-map (λ id. in_list r.worlds.items id.0) (λ e. e.1) p.worlds.entries) ∙ second_true (list_all (λ id. in_list r.interfaces.items id.0) (values p.interfaces))
            (list_all (λ id. in_list r.worlds.items id.0) (values p.worlds)) rest;
      }

  record InterfaceFacts (n : ℕ) (i : Interface) : Type 0 where
    place : is_place n ≡ true
    home : IsHomeBelow (length r.packages.items) i.«package»
    types : are_names_below (length r.types.items) i.types.entries ≡ true
    functions : AreFunctionsBelow (length r.types.items) i.functions.entries

  interface_facts : (n : ℕ) (i : Interface) → interface_at r n ≡ Some i → InterfaceFacts n i
  unfolding numbers_in_range
  interface_facts n i at =
      let home = passes (in_list r.packages.items) (package_number i.«package») in
      let types = list_all (λ id. in_list r.types.items id.0) (values i.types) in
      let functions = list_all (function_in_range r) (values i.functions) in
      let h = interface-passes numbers_in_range r rule n i at in
      let rest = second_true (is_place n) (home && (types && functions)) h in
      let both_ = second_true home (types && functions) rest in
      record {
        place = first_true (is_place n) (home && (types && functions)) h;
        home = home_below r i.«package» (first_true home (types && functions) rest);
        types = sym (list_all-map (λ id. in_list r.types.items id.0) (λ e. e.1) i.types.entries) ∙ first_true types functions both_;
        functions = functions_below r i.functions.entries (second_true types functions both_);
      }

  record WorldFacts (n : ℕ) (w : World) : Type 0 where
    place : is_place n ≡ true
    home : IsHomeBelow (length r.packages.items) w.«package»
    imports : AreEntriesBelow (length r.interfaces.items) (length r.types.items) w.imports.entries
    exports : AreEntriesBelow (length r.interfaces.items) (length r.types.items) w.exports.entries

  world_facts : (n : ℕ) (w : World) → world_at r n ≡ Some w → WorldFacts n w
  unfolding numbers_in_range
  world_facts n w at = search (std_rules, first_true, home_below, entries_below, second_true, each_at, lists_pass, rule)

  record TypeFacts (n : ℕ) (def : TypeDef) : Type 0 where
    place : is_place n ≡ true
    home : IsOwnerBelow (length r.interfaces.items) (length r.worlds.items) def.owner

  type_facts : (n : ℕ) (def : TypeDef) → type_at r n ≡ Some def → TypeFacts n def
  unfolding numbers_in_range
  type_facts n def at =
      let h = type-passes n def at in
      let kinds = list_all (in_list r.types.items) (kind_numbers def.kind) in
      record {
        place = first_true (is_place n) (kinds && owner_in_range r def.owner) h;
        home = owner_below r def.owner (second_true kinds (owner_in_range r def.owner) (second_true (is_place n) (kinds && owner_in_range r def.owner) h));
      }

  falls : FallBelow r.types.items
  falls n def at = ap (list_all (λ m. nat_lt m n)) (numbers_of_view def.kind) ∙ refers_below r (references_of r valid.rules) n def at

  pub is_in_range : IsInRange r
  is_in_range = record {
    few_packages = few_of r.packages.items (λ n p at. (package_facts n p at).place);
    few_interfaces = few_of r.interfaces.items (λ n i at. (interface_facts n i at).place);
    few_worlds = few_of r.worlds.items (λ n w at. (world_facts n w at).place);
    few_types = few_of r.types.items (λ n def at. (type_facts n def at).place);
    listed_interfaces = λ n p at. (package_facts n p at).interfaces;
    listed_worlds = λ n p at. (package_facts n p at).worlds;
    interface_homes = λ n i at. (interface_facts n i at).home;
    type_names = λ n i at. (interface_facts n i at).types;
    functions = λ n i at. (interface_facts n i at).functions;
    world_homes = λ n w at. (world_facts n w at).home;
    imports = λ n w at. (world_facts n w at).imports;
    exports = λ n w at. (world_facts n w at).exports;
    owners = λ n def at. (type_facts n def at).home;
    falls = falls;
  }

-- ---- what follows of entries

module _ (interfaces types : ℕ) where
  pub keys_below : (es : List (WorldKey × WorldItem)) → AreEntriesBelow interfaces types es → are_keys_below interfaces es ≡ true
  keys_below [] h = refl
  keys_below (e ∷ es) h = (λ i. h.0 i && keys_below es h.1.1 i)

  shown_one : (i : WorldItem) → IsItemBelow interfaces types i → IsShownBelow interfaces i
  shown_one x h = search std_rules

  pub shown_below : (es : List (WorldKey × WorldItem)) → AreEntriesBelow interfaces types es → AreShownBelow interfaces es
  shown_below [] h = tt
  shown_below (e ∷ es) h = (shown_one e.1 h.1.0, shown_below es h.1.1)

  pub new_shown_below : (es : List (WorldKey × WorldItem)) → AreEntriesBelow interfaces types es → AreNewShownBelow interfaces interfaces es
  new_shown_below [] h = tt
  new_shown_below (e ∷ es) h = (h.0, (shown_one e.1 h.1.0, new_shown_below es h.1.1))

  type_one : (i : WorldItem) → IsItemBelow interfaces types i → option_map_or (λ id. nat_lt id.0 types) (type_in i) true ≡ true
  type_one x h = search std_rules

  pub types_below : (es : List (WorldKey × WorldItem)) → AreEntriesBelow interfaces types es → are_types_below types es ≡ true
  types_below [] h = refl
  types_below (e ∷ es) h = (λ i. type_one e.1 h.1.0 i && types_below es h.1.1 i)
