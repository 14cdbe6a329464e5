-- With its owner, all that a type or a function refers to is carried: by the rule on owners, from the smaller numbers on.
use Rattle.bind_carry.proofs.CopiesPlaced.{by_test}
use Rattle.base_lemmas.proofs.{Bools.left_of as first_true, Bools.right_of as second_true, Elements.all_three, Elements.all_two, Elements.all_weaker}
use Rattle.bind_carry.specs.CarriedParts.{AreCarriedByOwner, PartsAreCarried, is_function_carried}
use Rattle.bind_union.proofs.{Carrying.references_of, Lists.no_true, WorldRules.by_entries}
use Rattle.indexmap.specs.IndexMap.{values}
use Rattle.std.proofs.Common.{Bool, List, None, Option, Some, [], ap, arith, false, flat_map, is_some, length, ltb-true, nat_lt, not, option_to_list, refl, rules as std_rules, suc, sym, true, zero, ℕ, ◌&&◌, ◌++◌, ◌<◌, ◌||◌, ◌∙◌, ◌∷◌, ◌≡◌}
use Rattle.std.proofs.lemmas.{Bool.and_from as both, Bool.lt-ltb, List.Folds.list_all-append, List.Folds.list_all-map, Option.slice_get_within}
use Rattle.std.specs.{List.list_all, Option.option_map_or, Prelude.String, declared.alloc.Global.Global}
use Rattle.wit_model.proofs.{Checks.below_at, Functions.all_flat, OnePath.found-in, OnePath.interface-passes, Owners.function_home, Owners.named_met, Owners.owned_stays, Owners.unnamed_met, PartsLemmas.owner_same as owner_equal, UsesLemmas.alias_numbers, ValidLemmas.type_passes}
use Rattle.wit_model.proofs.ValidLemmas.{world_passes}
use Rattle.wit_model.specs.{Checks.references, Lookup.interface_at, Lookup.type_at, Lookup.world_at, Parts.function_numbers, Parts.has_owner, Parts.kind_numbers, Parts.met_by, Parts.met_of, Parts.same_owner, Parts.used_by_type, Rules.entries_in_range, Rules.item_in_range, Rules.key_in_range, Rules.owner_in_range, Rules.package_number, Rules.passes, Text.text_eq, Text.text_of, Uses.alias_target, Uses.direct_deps, Uses.owner_interface, Valid.IsValid, Valid.Keeps, Valid.as_interface, Valid.as_world, Valid.order_of_types, Valid.owners, declared.model.Function.Function, declared.model.Interface.Interface}
use Rattle.wit_model.specs.Rules.{function_in_range, function_stays, in_list, is_listed, is_member, is_name_key, is_named_kind, is_named_number, is_use}
use Rattle.wit_model.specs.Valid.{function_names, functions_of_interface, functions_of_world, is_place, item_function, named_kinds, numbers_in_range}
use Rattle.wit_model.specs.declared.model.{Resolve.Resolve, TypeDef.TypeDef, TypeOwner.TypeOwner, World.World, WorldItem.WorldItem, WorldKey.WorldKey}
use Rattle.wit_model.specs.declared.model.TypeOwner.TheVariants as owner

-- ---- lists

-- what passes a test below a number passes another
all_below_pass : (p q : ℕ → Bool) (n : ℕ) (ns : List ℕ) → ((m : ℕ) → m < n → p m ≡ true → q m ≡ true) → list_all (λ m. nat_lt m n) ns ≡ true → list_all p ns ≡ true → list_all q ns ≡ true
all_below_pass p q n [] make low h = refl
all_below_pass p q n (m ∷ ns) make low h =
    search (std_rules, both, ltb-true, first_true, second_true, all_below_pass p q n ns make (second_true (nat_lt m n) (list_all (λ k. nat_lt k n) ns) low) (second_true (p m) (list_all p ns) h))

-- ---- owners of types

-- what the rule on lists of types says of one
abbrev stands_in_list : Resolve → ℕ → TypeDef → Bool
stands_in_list r n def = option_map_or (λ name. is_listed r n (text_of name) def.owner) def.name (same_owner def.owner owner.None)

is_in_list : (r : Resolve) → IsValid r → (n : ℕ) (def : TypeDef) → type_at r n ≡ Some def → stands_in_list r n def ≡ true
unfolding order_of_types
is_in_list r valid n def is = second_true (list_all (λ m. nat_lt m n) (kind_numbers def.kind)) (stands_in_list r n def) (type_passes order_of_types r valid.rules.order_of_types n def is)

-- a type with a name has an owner
pub has_home : (r : Resolve) → IsValid r → (n : ℕ) (def : TypeDef) → type_at r n ≡ Some def → is_some def.name ≡ true → same_owner def.owner owner.None ≡ false
has_home r valid n def is named = go def.name def.owner named (is_in_list r valid n def is)
  where
    go : (name : Option (String Global)) (o : TypeOwner) → is_some name ≡ true → option_map_or (λ s. is_listed r n (text_of s) o) name (same_owner o owner.None) ≡ true
        → same_owner o owner.None ≡ false
    go None o e h = no_true e
    go (Some s) owner.None e h = no_true h
    go (Some s) _ e h = refl

-- and one without a name has none
pub no_home : (r : Resolve) → IsValid r → (n : ℕ) (def : TypeDef) → type_at r n ≡ Some def → is_some def.name ≡ false → def.owner ≡ owner.None
no_home r valid n def is unnamed = search (std_rules, is_in_list r valid n def is)

module _ (r : Resolve) (carried : ℕ → Bool) (owned : TypeOwner → Bool) (valid : IsValid r) (by : AreCarriedByOwner r carried owned) where
  abbrev below : Keeps references r
  below = references_of r valid.rules

  -- ---- what is met of one owner alone

  module _ (o : TypeOwner) (is_owned : owned o ≡ true) where
    abbrev is_met : ℕ → Bool
    is_met n = list_all (has_owner r o) (met_by (met_of r) n)

    met_step_carried : (n : ℕ) (def : TypeDef) → type_at r n ≡ Some def → ((m : ℕ) → m < n → is_met m ≡ true → carried m ≡ true) → is_met n ≡ true → carried n ≡ true
    met_step_carried n def is smaller met = by_test (is_some def.name) (λ e. by.named n def is e (ap owned (owner_equal def.owner o (named_met r below n def is o e ∙ met)) ∙ is_owned))
        (λ e. by.unnamed n def is e (all_below_pass is_met carried n (kind_numbers def.kind) smaller (below_at r below n def is) (unnamed_met r below n def is o e ∙ met)))

    met_below : (fuel n : ℕ) → n < fuel → (def : TypeDef) → type_at r n ≡ Some def → is_met n ≡ true → carried n ≡ true
    met_below zero n less def is met = absurd (omega (arith, less))
    met_below (suc fuel) n less def is met =
        met_step_carried n def is (λ m low at_m. let d = found-in r.types.items m (lt-ltb m (length r.types.items) (omega (arith, low, slice_get_within r.types.items n def is))) in
        met_below fuel m (omega (arith, low, less)) d.0 d.1 at_m) met

    met_carried : (n : ℕ) → in_list r.types.items n ≡ true → is_met n ≡ true → carried n ≡ true
    met_carried n range met = let d = found-in r.types.items n range in met_below (suc n) n (omega arith) d.0 d.1 met

    all_met_carried : (ns : List ℕ) → list_all (in_list r.types.items) ns ≡ true → list_all (has_owner r o) (flat_map (met_by (met_of r)) ns) ≡ true → list_all carried ns ≡ true
    all_met_carried ns range met = all_two (in_list r.types.items) is_met carried met_carried ns range (sym (all_flat (has_owner r o) (met_by (met_of r)) ns) ∙ met)

    function_carried : (f : Function) → function_in_range r f ≡ true → function_stays r o f ≡ true → is_member r o f ≡ true → is_function_carried carried f ≡ true
    function_carried f range stays member = all_met_carried (function_numbers f) range (function_home r below o f stays member)

  -- ---- types

  -- whether an interface with this number has a name
  abbrev is_named_home : Option ℕ → Bool
  is_named_home a = option_map_or (λ i. option_map_or (λ other. is_some other.name) (interface_at r i) false) a false

  home_carried : (a : ℕ) (i : Option Interface) → interface_at r a ≡ i → option_map_or (λ other. is_some other.name) i false ≡ true → owned (as_interface a) ≡ true
  home_carried a x e h = search std_rules

  -- the target of a use is carried, since its interface is
  target_carried : (o : TypeOwner) (u : ℕ) (x : Option TypeDef) → type_at r u ≡ x → passes (λ d. is_some d.name) x ≡ true
      → option_map_or (λ target. not (same_owner target.owner o) && is_named_home (owner_interface target.owner)) x false ≡ true → carried u ≡ true
  target_carried o u None at named used = no_true used
  target_carried o u (Some t) at named used = by_owner t.owner refl (second_true (not (same_owner t.owner o)) (is_named_home (owner_interface t.owner)) used)
    where
      by_owner : (p : TypeOwner) → t.owner ≡ p → is_named_home (owner_interface p) ≡ true → carried u ≡ true
      by_owner (owner.Interface id) e h = by.named u t at named (ap owned e ∙ home_carried id.0 (interface_at r id.0) refl h)
      by_owner _ e h = no_true h

  use_carried : (n : ℕ) (def : TypeDef) → type_at r n ≡ Some def → is_use r def ≡ true → list_all carried (kind_numbers def.kind) ≡ true
  unfolding named_kinds
  use_carried n def is used = go (alias_target def.kind) refl used
      (second_true (not (is_named_kind def.kind) || is_some def.name) (passes (is_named_number r) (alias_target def.kind)) (type_passes named_kinds r valid.rules.named_kinds n def is))
    where
      go : (a : Option ℕ) → alias_target def.kind ≡ a
          → option_map_or (λ u. option_map_or (λ target. not (same_owner target.owner def.owner) && is_named_home (owner_interface target.owner)) (type_at r u) false) a false ≡ true
          → passes (is_named_number r) a ≡ true → list_all carried (kind_numbers def.kind) ≡ true
      go None e h k = no_true h
      go (Some u) e h k = ap (list_all carried) (alias_numbers def.kind u e) ∙ both (carried u) true (target_carried def.owner u (type_at r u) refl k h) refl

  kind_in_range : (n : ℕ) (def : TypeDef) → type_at r n ≡ Some def → list_all (in_list r.types.items) (kind_numbers def.kind) ≡ true
  unfolding numbers_in_range
  kind_in_range n def is = first_true (list_all (in_list r.types.items) (kind_numbers def.kind)) (owner_in_range r def.owner)
      (second_true (is_place n) (list_all (in_list r.types.items) (kind_numbers def.kind) && owner_in_range r def.owner) (type_passes numbers_in_range r valid.rules.numbers_in_range n def is))

  type_parts : (n : ℕ) (def : TypeDef) → type_at r n ≡ Some def → is_some def.name ≡ true → owned def.owner ≡ true → list_all carried (kind_numbers def.kind) ≡ true
  unfolding owners
  type_parts n def is named is_owned = go (list_all (has_owner r def.owner) (used_by_type r def)) refl
      (owned_stays r def (type_passes owners r valid.rules.owners n def is) (has_home r valid n def is named))
    where
      go : (b : Bool) → list_all (has_owner r def.owner) (used_by_type r def) ≡ b → (list_all (has_owner r def.owner) (used_by_type r def) || is_use r def) ≡ true
          → list_all carried (kind_numbers def.kind) ≡ true
      go true e h = all_met_carried def.owner is_owned (kind_numbers def.kind) (kind_in_range n def is) e
      go false e h = use_carried n def is (sym (ap (λ b. b || is_use r def) e) ∙ h)

  -- ---- functions

  interface_functions : (n : ℕ) (i : Interface) → interface_at r n ≡ Some i → owned (as_interface n) ≡ true → list_all (is_function_carried carried) (functions_of_interface i) ≡ true
  unfolding owners numbers_in_range function_names
  interface_functions n i is is_owned =
      let o = as_interface n in
      all_three (function_in_range r) (function_stays r o) (is_member r o) (is_function_carried carried) (function_carried o is_owned) (values i.functions)
      (second_true (list_all (λ id. in_list r.types.items id.0) (values i.types)) (list_all (function_in_range r) (values i.functions))
      (second_true (passes (in_list r.packages.items) (package_number i.«package»))
      (list_all (λ id. in_list r.types.items id.0) (values i.types) && list_all (function_in_range r) (values i.functions))
      (second_true (is_place n) (passes (in_list r.packages.items) (package_number i.«package»)
      && (list_all (λ id. in_list r.types.items id.0) (values i.types) && list_all (function_in_range r) (values i.functions)))
      (interface-passes numbers_in_range r valid.rules.numbers_in_range n i is))))
      (first_true (list_all (function_stays r o) (values i.functions)) (list_all (λ m. nat_lt m n) (direct_deps r n)) (interface-passes owners r valid.rules.owners n i is))
      (list_all-map (is_member r o) (λ e. e.1) i.functions.entries ∙ all_weaker (λ (e : String Global × Function). text_eq (text_of e.0) (text_of e.1.name) && is_member r o e.1)
      (λ e. is_member r o e.1) (λ e h. second_true (text_eq (text_of e.0) (text_of e.1.name)) (is_member r o e.1) h) i.functions.entries
      (interface-passes function_names r valid.rules.function_names n i is))

  -- what an item's function is asked
  abbrev item_passes : (Function → Bool) → WorldKey × WorldItem → Bool
  item_passes p e = list_all p (option_to_list (item_function e.1))

  entry_in_range : (e : WorldKey × WorldItem) → (key_in_range r e.0 && item_in_range r e.1) ≡ true → item_passes (function_in_range r) e ≡ true
  entry_in_range e h = search std_rules

  entry_member : (o : TypeOwner) (e : WorldKey × WorldItem) → passes (λ f. is_name_key (text_of f.name) e.0 && is_member r o f) (item_function e.1) ≡ true → item_passes (is_member r o) e ≡ true
  entry_member o e h = search (std_rules, both, second_true)

  world_functions : (n : ℕ) (w : World) → world_at r n ≡ Some w → owned (as_world n) ≡ true → list_all (is_function_carried carried) (functions_of_world w) ≡ true
  unfolding owners numbers_in_range function_names
  world_functions n w is is_owned =
      let o = as_world n in
      let all = second_true (passes (in_list r.packages.items) (package_number w.«package»)) (entries_in_range r w.imports.entries && entries_in_range r w.exports.entries)
      (second_true (is_place n) (passes (in_list r.packages.items) (package_number w.«package») && (entries_in_range r w.imports.entries && entries_in_range r w.exports.entries))
      (world_passes numbers_in_range r valid.rules.numbers_in_range n w is)) in
      let weaker = all_weaker (λ (e : WorldKey × WorldItem). key_in_range r e.0 && item_in_range r e.1) (item_passes (function_in_range r)) entry_in_range in
      let range = by_entries (function_in_range r) w ∙ both (list_all (item_passes (function_in_range r)) w.imports.entries) (list_all (item_passes (function_in_range r)) w.exports.entries)
      (weaker w.imports.entries (first_true (entries_in_range r w.imports.entries) (entries_in_range r w.exports.entries) all))
      (weaker w.exports.entries (second_true (entries_in_range r w.imports.entries) (entries_in_range r w.exports.entries) all)) in
      let passed = all_weaker (λ (e : WorldKey × WorldItem). passes (λ f. is_name_key (text_of f.name) e.0 && is_member r o f) (item_function e.1)) (item_passes (is_member r o)) (entry_member o)
      (w.imports.entries ++ w.exports.entries) (world_passes function_names r valid.rules.function_names n w is) in
      let members = by_entries (is_member r o) w ∙ (sym (list_all-append (item_passes (is_member r o)) w.imports.entries w.exports.entries) ∙ passed) in
      all_three (function_in_range r) (function_stays r o) (is_member r o) (is_function_carried carried) (function_carried o is_owned) (functions_of_world w) range
      (world_passes owners r valid.rules.owners n w is) members

-- With the owners that are carried, parts of their types and types of their functions are.
pub parts_are_carried : PartsAreCarried
parts_are_carried r carried owned valid by = search (std_rules, type_parts, interface_functions, world_functions)
