-- What a valid `Resolve` gives for comparing.
use Rattle.std.proofs.Common.{rules as std_rules, arith, slice_get, ◌≡◌, refl, sym, ap, subst, ◌∙◌, ℕ, ◌+◌, ◌<◌, true, ◌&&◌, List, [], ◌∷◌, filter_map, length, Option, Some, None, option_to_list}
use Rattle.std.proofs.lemmas.{List.Folds.list_all-append, Bool.ltb-true as is_below}
use Rattle.std.specs.{List.Contains, List.list_all, Option.option_map_or}
use Rattle.indexmap.specs.IndexMap.{values}
use Rattle.wit_model.specs.declared.model.{Resolve.Resolve, World.World, TypeDef.TypeDef, TypeId.TypeId, Interface.Interface, WorldKey.WorldKey, WorldItem.WorldItem, Function.Function, «Type».«Type» as ValueType}
use Rattle.wit_model.specs.{Text.Text, Types.number_of, Parts.function_types, Parts.kind_numbers}
use Rattle.wit_model.specs.{Lookup.interface_at, Lookup.type_at, Lookup.world_at, Lookup.resource_of, Valid.IsValid, Valid.is_place, Valid.numbers_in_range}
use Rattle.wit_model.specs.Rules.{entries_in_range, function_in_range, in_list, item_in_range, key_in_range, owner_in_range, package_number, passes}
use Rattle.wit_model.proofs.{Entries.each_from_at, Entries.lists_pass, Lists.list_all_filter_map, TreeTable.kept_numbers}
use Rattle.compat_meaning.specs.{Compatible.HasItemsInRange, Opened.bare_key, Parts.ThingInRange, Table.AllInRange, Table.IsLayered}
use Rattle.compat_meaning.specs.Flat.{FlatName, Thing, interface, entry_things, item_things, members, things_of}
use Rattle.base_lemmas.proofs.{Bools.left_of as first_true, Bools.right_of as second_true, Lists.within_there, Numbers.false_true}
use Rattle.compat_meaning.proofs.{Either.flat_from, Either.of_first, Keyed.of_members}
use Rattle.base_lemmas.proofs.Elements.{all-contained as all_contained, contains-map as contains_mapped, last_of as contains_one, none_in}
use Rattle.wit_model.specs.declared.model.WorldItem.TheVariants as item
use Rattle.wit_model.specs.declared.model.«Type».TheVariants as ty

-- ---- ranges

fits : {X : Type 0} (xs : List X) → ((x : X) → slice_get xs 4294967295 ≡ Some x → is_place 4294967295 ≡ true) → length xs < 4294967296
fits xs h = let past : 4294967295 < length xs → ⊥ = λ lt. let w = within_there xs 4294967295 lt in false_true (h w.0 w.1) in omega arith

module _ (r : Resolve) where
  types_in_range : (ts : List ValueType) → list_all (in_list r.types.items) (filter_map number_of ts) ≡ true → AllInRange r ts
  types_in_range ts h t c id is =
      let all = sym (list_all_filter_map (in_list r.types.items) number_of ts) ∙ h in
      let one : list_all (in_list r.types.items) (option_to_list (number_of t)) ≡ true = all_contained (λ x. list_all (in_list r.types.items) (option_to_list (number_of x))) ts t all c in
      is_below id.0 (length r.types.items) (first_true (in_list r.types.items id.0) true (ap (λ x. list_all (in_list r.types.items) (option_to_list (number_of x))) (sym is) ∙ one))

  pub function_types_in_range : (f : Function) → function_in_range r f ≡ true → AllInRange r (function_types f)
  function_types_in_range f h = types_in_range (function_types f) (first_true (list_all (in_list r.types.items) (filter_map number_of (function_types f)))
      (list_all (in_list r.types.items) (option_to_list (resource_of f.kind)))
      (sym (list_all-append (in_list r.types.items) (filter_map number_of (function_types f)) (option_to_list (resource_of f.kind))) ∙ h))

  number_in_range : (id : TypeId) → in_list r.types.items id.0 ≡ true → AllInRange r (ty.Id id ∷ [])
  number_in_range id h t c other is = search std_rules

  module _ (v : IsValid r) where
    pub interface_numbers : (n : ℕ) (i : Interface) → interface_at r n ≡ Some i → (list_all (λ id. in_list r.types.items id.0) (values i.types) ≡ true)
        × (list_all (function_in_range r) (values i.functions) ≡ true)
    unfolding numbers_in_range
    interface_numbers n i at =
        let rest = second_true (is_place (0 + n)) _ (each_from_at (numbers_in_range.interface_ r) 0 r.interfaces.items n i (lists_pass numbers_in_range r v.rules.numbers_in_range).1 at) in
        let both = second_true (passes (in_list r.packages.items) (package_number i.«package»)) _ rest in
        (first_true (list_all (λ id. in_list r.types.items id.0) (values i.types)) _ both, second_true (list_all (λ id. in_list r.types.items id.0) (values i.types)) _ both)

    pub world_numbers : (n : ℕ) (w : World) → world_at r n ≡ Some w → (entries_in_range r w.imports.entries ≡ true) × (entries_in_range r w.exports.entries ≡ true)
    unfolding numbers_in_range
    world_numbers n w at =
        let rest = second_true (is_place (0 + n)) _ (each_from_at (numbers_in_range.world_ r) 0 r.worlds.items n w (lists_pass numbers_in_range r v.rules.numbers_in_range).2 at) in
        let both = second_true (passes (in_list r.packages.items) (package_number w.«package»)) _ rest in
        (first_true (entries_in_range r w.imports.entries) _ both, second_true (entries_in_range r w.imports.entries) _ both)

    type_numbers : (n : ℕ) (def : TypeDef) → type_at r n ≡ Some def → owner_in_range r def.owner ≡ true
    unfolding numbers_in_range
    type_numbers n def at =
        let rest = second_true (is_place (0 + n)) _ (each_from_at (numbers_in_range.type_ r) 0 r.types.items n def (lists_pass numbers_in_range r v.rules.numbers_in_range).3 at) in
        second_true (list_all (in_list r.types.items) (kind_numbers def.kind)) _ rest

    pub layered : IsLayered r
    layered = record { smaller = kept_numbers r v.rules; owners = λ n def at id is. is_below id.0 (length r.interfaces.items) (ap (owner_in_range r) (sym is) ∙ type_numbers n def at) }

    members_in_range : (k : Text) (i : Interface) (n : ℕ) → interface_at r n ≡ Some i → (x : FlatName × Thing) → Contains (members k i) x → ThingInRange r x.1
    members_in_range k i n at x c = of_members (λ y. ThingInRange r y.1) k i
        (λ e d. number_in_range e.1 (all_contained (λ id. in_list r.types.items id.0) (values i.types) e.1 (interface_numbers n i at).0 (contains_mapped (λ e. e.1) i.types.entries e d)))
        (λ e d. function_types_in_range e.1 (all_contained (function_in_range r) (values i.functions) e.1 (interface_numbers n i at).1 (contains_mapped (λ e. e.1) i.functions.entries e d))) x c

    optional_in_range : (k : Text) (n : ℕ) (o : Option Interface) → interface_at r n ≡ o → (x : FlatName × Thing) → Contains (option_map_or (members k) o []) x → ThingInRange r x.1
    optional_in_range k n None at x c = absurd (none_in x c)
    optional_in_range k n (Some i) at x c = members_in_range k i n at x c

    item_things_in_range : (k : Text) (i : WorldItem) → item_in_range r i ≡ true → (x : FlatName × Thing) → Contains (item_things r k i) x → ThingInRange r x.1
    item_things_in_range k (item.Function f) h x c = subst (λ (y : FlatName × Thing). ThingInRange r y.1) (contains_one _ x c) (function_types_in_range f h)
    item_things_in_range k (item.Type_ id) h x c = subst (λ (y : FlatName × Thing). ThingInRange r y.1) (contains_one _ x c) (number_in_range id h)
    item_things_in_range k (item.Interface id stability docs external_id) h x c =
        of_first ((k, []), interface) (option_map_or (members k) (interface_at r id.0) []) x (λ e. subst (λ (y : FlatName × Thing). ThingInRange r y.1) e tt)
        (optional_in_range k id.0 (interface_at r id.0) refl x) c

    pub things_in_range : (es : List (WorldKey × WorldItem)) → entries_in_range r es ≡ true → (x : FlatName × Thing) → Contains (things_of r es) x → ThingInRange r x.1
    things_in_range es h x c =
        let w = flat_from (entry_things r) es x c in
        item_things_in_range (bare_key r w.0.0) w.0.1 (second_true (key_in_range r w.0.0) (item_in_range r w.0.1) (all_contained (λ e. key_in_range r e.0 && item_in_range r e.1) es w.0 h w.1)) x w.2

    pub world_items : (n : ℕ) (w : World) → world_at r n ≡ Some w → HasItemsInRange r w
    world_items n w at = record { imports = (world_numbers n w at).0; exports = (world_numbers n w at).1 }

    -- the numbers of types fit in 32 bits
    pub types_fit : length r.types.items < 4294967296
    unfolding numbers_in_range
    types_fit = fits r.types.items (λ x at. first_true (is_place 4294967295) (list_all (in_list r.types.items) (kind_numbers x.kind) && owner_in_range r x.owner)
        (each_from_at (numbers_in_range.type_ r) 0 r.types.items 4294967295 x (lists_pass numbers_in_range r v.rules.numbers_in_range).3 at))

    -- the numbers of interfaces too
    pub interfaces_fit : length r.interfaces.items < 4294967296
    unfolding numbers_in_range
    interfaces_fit = fits r.interfaces.items (λ x at. first_true (is_place 4294967295)
        (passes (in_list r.packages.items) (package_number x.«package») && (list_all (λ id. in_list r.types.items id.0) (values x.types) && list_all (function_in_range r) (values x.functions)))
        (each_from_at (numbers_in_range.interface_ r) 0 r.interfaces.items 4294967295 x (lists_pass numbers_in_range r v.rules.numbers_in_range).1 at))
