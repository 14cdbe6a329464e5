-- Each type, interface and world of what was merged is a copy, of an own one or of one of the other's, and so most rules are kept.
use Rattle.std.proofs.Common.{rules as std_rules, ◌≡◌, inl, inr, refl, sym, ap, subst, ◌∙◌, ℕ, ◌<◌, Bool, true, false, ◌==◌, nat_lt, ltb-true, [], length, Some, ◌&&◌, not, List, ◌++◌, ◌≤◌, arith, ◌||◌, Option, None, filter_map, map, option_map, ◌⊎◌, slice_get}
use Rattle.std.proofs.lemmas.{Bool.lt-ltb, Bool.cases_lt as low_or_high, Bool.and_from as both, Option.slice_get_within, Option.same_Some as same-some, List.Folds.list_all-map, List.Folds.list_all-append, List.map-append}
use Rattle.std.specs.{List.list_all, Prelude.String, Prelude.count_by, Prelude.option_and_then, Map.lookup, Option.option_map_or}
use Rattle.wit_model.specs.declared.model.{Resolve.Resolve, Interface.Interface, Function.Function, WorldKey.WorldKey, WorldItem.WorldItem, TypeOwner.TypeOwner, World.World, TypeDef.TypeDef, TypeId.TypeId}
use Rattle.wit_model.specs.{Lookup.interface_at, Lookup.world_at, Lookup.type_at, Checks.references, Names.is_label, Uses.has, Parts.kind_numbers, Parts.function_types, Parts.is_resource_type, Parts.same_owner, Text.text_of, Text.Text, Text.optional_text}
use Rattle.wit_model.specs.Rules.{each_from, passes, each_after, is_stability, entries_labels, is_name_key, is_shallow, key_label, item_labels, is_member, function_stays, import_stands, export_stands, uses_stand_before, is_id, in_list, entries_in_range, item_type, world_type_numbers, is_named_of, is_listed, is_listed_in_interface, is_listed_in_world, are_in_order, package_number, owner_in_range, function_in_range, interface_type_numbers, key_in_range, item_in_range}
use Rattle.wit_model.specs.Valid.{Rule, Keeps, KeepsRules, as_world, item_function, functions_of_world, labels, owners, shapes, named_kinds, handles, depths, function_names, world_items, order_of_items, order_of_types, is_place, functions_of_interface, numbers_in_range}
use Rattle.wit_model.proofs.{Checks.below_at, OnePath.found-in, RulesLemmas.each_by_number, Entries.types_keep, Entries.worlds_keep, Entries.free_passes, ValidLemmas.world_passes as world-passes, ValidLemmas.type_passes}
use Rattle.bind_union.specs.Carried.{Renumbering, IsCarried, EntryBecomes, IsFunctionCopy, owner_under, copies_owner, IsType, IsInterface, carries_owner}
use Rattle.bind_union.specs.{Joined.IsJoined, Joined.Joined, Merged.IsCopyUnder, Merged.IsMerged}
use Rattle.bind_union.proofs.{Images.numbers_of_view, ViewTests.numbers_same, KeptPackages.kept, KeptPackages.by_package, KeptPackages.all_stand, KeptPackages.ranges_hold, Carrying.interface_package, Carrying.references_of, Listed.listed_in_interface, Listed.listed_in_world, Listed.stays_listed}
use Rattle.bind_union.proofs.Itself.{world_package, get_begin, itself, carried_itself, joined_itself, world_range, map_same}
use Rattle.bind_union.proofs.Lists.{by_number, no_true}
use Rattle.bind_union.proofs.CopyRules.{shape_passes, named_passes, handle_passes, depth_passes, label_passes, stay_passes, stability_alike, function_stays_passes, function_handles_pass, function_depths_pass, function_range_passes, added_pass, entry_function, entry_member, entry_import_stands, entry_export_stands, entry_range, entry_labels, unowned}
use Rattle.bind_union.proofs.InterfaceRules.{interface_labels_pass, interface_owners_pass, interface_handles_pass, interface_depths_pass, interface_members_pass, interface_order_passes, all_named_of, type_numbers, all_copies, copies_carried, each_function}
use Rattle.bind_union.proofs.WorldOrder.{items, numbers_append, types_in, none_added, past_range, range_types}
use Rattle.bind_union.proofs.WorldRules.{on_function, by_entries, sides_pass, order_passes, in_order, types_in_order, world_order_passes, world_types_pass}
use Rattle.base_lemmas.proofs.{Elements.all_pass, Elements.all_weaker, Elements.all_two, Bools.left_of as first_true, Bools.right_of as second_true, Bools.or_false}
use Rattle.base_lemmas.proofs.Numbers.{unequal}
use Rattle.std.specs.declared.alloc.Global.{Global}
use Rattle.indexmap.specs.IndexMap.{values}
use Rattle.wit_model.specs.declared.model.TypeOwner.TheVariants as owner

-- a `Resolve` of which something is carried into this one
pub record Source (s : Resolve) : Type 0 where
  pub from : Resolve
  pub under : Renumbering
  pub valid : KeepsRules from
  pub carried : IsCarried from s under

-- a copied type refers to smaller numbers
pub copy_refers : (s : Resolve) (c : Source s) (n : ℕ) (copy : c.under.copies_type n ≡ true)
    → list_all (λ m. nat_lt m (c.under.types n)) (kind_numbers (c.carried.types n (c.carried.copied_types n copy)).image.kind) ≡ true
copy_refers s c n copy =
    let t = c.carried.types n (c.carried.copied_types n copy) in
    let k = (t.copied copy).kind in
    ap (list_all (λ m. nat_lt m (c.under.types n))) (numbers_same c.under.types t.def.kind t.image.kind k.kinds)
    ∙ (list_all-map (λ m. nat_lt m (c.under.types n)) c.under.types (kind_numbers t.def.kind)
    ∙ all_two c.under.carries_type (λ m. nat_lt m n) (λ m. nat_lt (c.under.types m) (c.under.types n))
    (λ m d h. lt-ltb (c.under.types m) (c.under.types n) (c.carried.types_rise m n d copy (inl (ltb-true m n h)))) (kind_numbers t.def.kind)
    (ap (list_all c.under.carries_type) (sym (numbers_of_view t.def.kind)) ∙ k.parts) (below_at c.from (references_of c.from c.valid) n t.def t.found))

-- numbers that are copied aren't those that were there
fresh_added : (f : Renumbering) (own : List (WorldKey × WorldItem)) (k : ℕ) → ((m : ℕ) → f.copies_type m ≡ true → k ≤ f.types m) → (n : ℕ) → n < k → (olds news : List (WorldKey × WorldItem))
    → Joined f own olds news → has (filter_map item_type (items news)) n ≡ false
fresh_added f own k new n low olds news j = none_added f (types_in f) own olds news j n (λ a c e. let high = new a c in omega (arith, high, low, e))

place_below : (n k : ℕ) → n < k → k ≤ 4294967295 → is_place n ≡ true
place_below n k low few = ap not (unequal n 4294967295 (λ e. omega (arith, low, few, e)))

same_option : (o : Option ℕ) → option_map (λ (n : ℕ). n) o ≡ o
same_option x = search std_rules

-- what one number passes, it passes under another name
moved : {X : Type 0} (get : ℕ → Option X) (test : ℕ → X → Bool) (k n : ℕ) (x y : X) → get k ≡ Some x → k ≡ n → get n ≡ Some y → test k x ≡ true → test n y ≡ true
moved get test k n x y at same e h = cc

-- own entries, and copies of two kinds
each_from_three : {X : Type 0} (test : ℕ → X → Bool) (xs : List X) (low : ℕ) (f g : ℕ → ℕ) (p q : ℕ → Bool) → ((n : ℕ) → low ≤ n → n < length xs → IsCopyUnder f p n ⊎ IsCopyUnder g q n)
    → ((n : ℕ) (x : X) → n < low → slice_get xs n ≡ Some x → test n x ≡ true) → ((k : ℕ) → p k ≡ true → (x : X) × (slice_get xs (f k) ≡ Some x) × (test (f k) x ≡ true))
    → ((k : ℕ) → q k ≡ true → (x : X) × (slice_get xs (g k) ≡ Some x) × (test (g k) x ≡ true)) → each_from test 0 xs ≡ true
each_from_three test xs low f g p q from own one two = each_by_number test xs (λ n x e. elim (low_or_high n low) [
  | inl l ↦ own n x l e
  | inr high ↦ elim (from n high (slice_get_within xs n x e)) [
    | inl c ↦ let y = one c.0 c.1 in moved (slice_get xs) test (f c.0) n y.0 x y.1 c.2 e y.2
    | inr c ↦ let y = two c.0 c.1 in moved (slice_get xs) test (g c.0) n y.0 x y.1 c.2 e y.2
  ]
])

module _ (own other merged : Resolve) (bound other_bound : ℕ) (first second : Renumbering) (left_out : ℕ → Bool) (valid_own : KeepsRules own) (valid_other : KeepsRules other) (is : IsMerged own other merged bound other_bound first second left_out) where
  abbrev pub own_source : Source merged
  own_source = record { from = own; under = itself own; valid = valid_own; carried = carried_itself own valid_own merged is.types is.interfaces is.packages }

  abbrev pub first_source : Source merged
  first_source = record { from = other; under = first; valid = valid_other; carried = is.first_copies.carried }

  abbrev pub second_source : Source merged
  second_source = record { from = other; under = second; valid = valid_other; carried = is.second_copies.carried }

  -- ---- types

  abbrev type_of : (c : Source merged) (n : ℕ) → c.under.copies_type n ≡ true → IsType c.from merged c.under n
  type_of c n copy = c.carried.types n (c.carried.copied_types n copy)

  pub each_type_of_three : (test : ℕ → TypeDef → Bool) → ((k : ℕ) (copy : own_source.under.copies_type k ≡ true) → test k (type_of own_source k copy).image ≡ true)
      → ((k : ℕ) (copy : first.copies_type k ≡ true) → test (first.types k) (type_of first_source k copy).image ≡ true)
      → ((k : ℕ) (copy : second.copies_type k ≡ true) → test (second.types k) (type_of second_source k copy).image ≡ true) → each_from test 0 merged.types.items ≡ true
  each_type_of_three test a b c = each_from_three test merged.types.items (length own.types.items) first.types second.types first.copies_type second.copies_type is.type_from
      (λ n def l e. let d = lt-ltb n _ l in let t = type_of own_source n d in moved (type_at merged) test n n t.image def t.at_image refl e (a n d))
      (λ k copy. let t = type_of first_source k copy in (t.image, t.at_image, b k copy)) (λ k copy. let t = type_of second_source k copy in (t.image, t.at_image, c k copy))

  pub each_type : (test : ℕ → TypeDef → Bool) → ((c : Source merged) (n : ℕ) (copy : c.under.copies_type n ≡ true) → test (c.under.types n) (type_of c n copy).image ≡ true)
      → each_from test 0 merged.types.items ≡ true
  each_type test one = each_type_of_three test (one own_source) (one first_source) (one second_source)

  -- ---- all refer to smaller numbers

  pub below : Keeps references merged
  unfolding references
  below = types_keep (λ r n def. list_all (λ m. nat_lt m n) (kind_numbers def.kind)) merged (each_type (λ n def. list_all (λ m. nat_lt m n) (kind_numbers def.kind)) (copy_refers merged))

  -- ---- interfaces

  abbrev pub interface_of : (c : Source merged) (n : ℕ) → c.under.copies_interface n ≡ true → IsInterface c.from merged c.under n
  interface_of c n copy = c.carried.interfaces n (c.carried.copied_interfaces n copy)

  -- own ones, and those that are copied once and twice
  pub each_interface_of_three : (test : ℕ → Interface → Bool) → ((n : ℕ) (i : Interface) → interface_at own n ≡ Some i → test n i ≡ true)
      → ((k : ℕ) (copy : first.copies_interface k ≡ true) → test (first.interfaces k) (interface_of first_source k copy).image ≡ true)
      → ((k : ℕ) (copy : second.copies_interface k ≡ true) → test (second.interfaces k) (interface_of second_source k copy).image ≡ true) → each_from test 0 merged.interfaces.items ≡ true
  each_interface_of_three test a b c =
      each_from_three test merged.interfaces.items (length own.interfaces.items) first.interfaces second.interfaces first.copies_interface second.copies_interface is.interface_from
      (λ n i l e. let x = found-in own.interfaces.items n (lt-ltb n _ l) in moved (interface_at merged) test n n x.0 i (get_begin own.interfaces.items _ is.interfaces n x.0 x.1) refl e (a n x.0 x.1))
      (λ k copy. let t = interface_of first_source k copy in (t.image, t.at_image, b k copy)) (λ k copy. let t = interface_of second_source k copy in (t.image, t.at_image, c k copy))

  own_interface : (test : ℕ → Interface → Bool) → ((n : ℕ) (copy : own_source.under.copies_interface n ≡ true) → test n (interface_of own_source n copy).image ≡ true)
      → (n : ℕ) (i : Interface) → interface_at own n ≡ Some i → test n i ≡ true
  own_interface test one n i e =
      let low = lt-ltb n _ (slice_get_within own.interfaces.items n i e) in
      let t = interface_of own_source n low in
      moved (interface_at merged) test n n t.image i t.at_image refl (get_begin own.interfaces.items _ is.interfaces n i e) (one n low)

  pub each_interface : (test : ℕ → Interface → Bool)
      → ((c : Source merged) (n : ℕ) (copy : c.under.copies_interface n ≡ true) → test (c.under.interfaces n) (interface_of c n copy).image ≡ true) → each_from test 0 merged.interfaces.items ≡ true
  each_interface test one = each_interface_of_three test (own_interface test (one own_source)) (one first_source) (one second_source)

  -- ---- worlds

  -- an own world that isn't the bound one
  abbrev pub own_joined : (n : ℕ) (w : World) → world_at own n ≡ Some w → (n == bound) ≡ false → IsJoined own merged (itself own) n [] []
  own_joined n w e apart = record {
    old = w;
    found = e;
    carries = lt-ltb n (length own.worlds.items) (slice_get_within own.worlds.items n w e);
    image = w;
    at_image = is.worlds n w e apart;
    new_imports = w.imports.entries;
    imports = refl;
    joined_imports = joined_itself own valid_own w.imports.entries (world_range own valid_own n w e).0;
    new_exports = w.exports.entries;
    exports = refl;
    joined_exports = joined_itself own valid_own w.exports.entries (world_range own valid_own n w e).1;
  }

  pub bound_found : world_at merged bound ≡ Some is.joined.image
  bound_found = ap (world_at merged) (sym is.bound_there) ∙ is.joined.at_image

  -- Each world is an own one, a copy, or the bound one.
  pub each_world : (test : ℕ → World → Bool) → ((n : ℕ) (w : World) (e : world_at own n ≡ Some w) (apart : (n == bound) ≡ false) → test n w ≡ true)
      → ((n : ℕ) (c : first.carries_world n ≡ true) → test (first.worlds n) (is.first_worlds n c).joined.image ≡ true) → test bound is.joined.image ≡ true → each_from test 0 merged.worlds.items ≡ true
  each_world test ours copies at_bound = each_by_number test merged.worlds.items (λ n w e. elim (low_or_high n (length own.worlds.items)) [
    | inl low ↦
        let x = found-in own.worlds.items n (lt-ltb n (length own.worlds.items) low) in
        by_number n bound (λ same. moved (world_at merged) test bound n is.joined.image w bound_found (sym same) e at_bound)
        (λ apart. moved (world_at merged) test n n x.0 w (is.worlds n x.0 x.1 apart) refl e (ours n x.0 x.1 apart))
    | inr high ↦
        let c = is.world_from n high (slice_get_within merged.worlds.items n w e) in
        let j = (is.first_worlds c.0 c.1).joined in
        moved (world_at merged) test (first.worlds c.0) n j.image w j.at_image c.2 e (copies c.0 c.1)
  ])

  -- a test that holds of each joined world
  pub each_joined : (test : ℕ → World → Bool) → ((c : Source merged) (n : ℕ) (j : IsJoined c.from merged c.under n [] []) → test (c.under.worlds n) j.image ≡ true) → test bound is.joined.image ≡ true
      → each_from test 0 merged.worlds.items ≡ true
  each_joined test one at_bound = each_world test (λ n w e apart. one own_source n (own_joined n w e apart)) (λ n c. one first_source n (is.first_worlds n c).joined) at_bound

  -- ---- rules on types alone

  pub shapes_kept : Keeps shapes merged
  unfolding shapes
  shapes_kept = types_keep shapes.type_ merged (each_type (shapes.type_ merged) (λ c. shape_passes c.from merged c.under c.valid c.carried below))

  pub named_kinds_kept : Keeps named_kinds merged
  unfolding named_kinds
  named_kinds_kept = types_keep named_kinds.type_ merged (each_type (named_kinds.type_ merged) (λ c. named_passes c.from merged c.under c.valid c.carried below))

  -- ---- tests on the entries of worlds

  abbrev pub own_imports : List (WorldKey × WorldItem)
  own_imports = is.own_bound.imports.entries

  abbrev pub own_exports : List (WorldKey × WorldItem)
  own_exports = is.own_bound.exports.entries

  -- what an entry passes, its copy passes
  abbrev Steps : (Resolve → ℕ → WorldKey × WorldItem → Bool) → Type 0
  Steps p = (c : Source merged) (n : ℕ) (a b : WorldKey × WorldItem) → EntryBecomes c.under a b → p c.from n a ≡ true → p merged (c.under.worlds n) b ≡ true

  abbrev Sides : (p q : Resolve → ℕ → WorldKey × WorldItem → Bool) → Resolve → ℕ → World → Type 0
  Sides p q r n w = (list_all (p r n) w.imports.entries && list_all (q r n) w.exports.entries) ≡ true

  module _ (p q : Resolve → ℕ → WorldKey × WorldItem → Bool) (p_steps : Steps p) (q_steps : Steps q) (old : (r : Resolve) → KeepsRules r → (n : ℕ) (w : World) → world_at r n ≡ Some w → Sides p q r n w) where
    joined_sides : (c : Source merged) (n : ℕ) (oi oe : List (WorldKey × WorldItem)) (j : IsJoined c.from merged c.under n oi oe) → list_all (p merged (c.under.worlds n)) oi ≡ true
        → list_all (q merged (c.under.worlds n)) oe ≡ true → Sides p q merged (c.under.worlds n) j.image
    joined_sides c n oi oe j ps qs = sides_pass c.from merged c.under c.valid c.carried below n oi oe j (p c.from n) (p merged (c.under.worlds n)) (q c.from n) (q merged (c.under.worlds n))
        (p_steps c n) (q_steps c n) ps qs (old c.from c.valid n j.old j.found)

    bound_sides : Sides p q merged bound is.joined.image
    bound_sides =
        let h = old own valid_own bound is.own_bound is.bound_at in
        let range = world_range own valid_own bound is.own_bound is.bound_at in
        subst (λ (k : ℕ). list_all (p merged k) own_imports ≡ true → list_all (q merged k) own_exports ≡ true → Sides p q merged k is.joined.image) is.bound_there
        (joined_sides second_source other_bound own_imports own_exports is.joined)
        (added_pass (itself own) [] (p own bound) (p merged bound) (p_steps own_source bound) own_imports own_imports (joined_itself own valid_own own_imports range.0) (first_true _ _ h))
        (added_pass (itself own) [] (q own bound) (q merged bound) (q_steps own_source bound) own_exports own_exports (joined_itself own valid_own own_exports range.1)
        (second_true (list_all (p own bound) own_imports) _ h))

    worlds_pass : (test : ℕ → World → Bool) → ((n : ℕ) (w : World) → Sides p q merged n w → test n w ≡ true) → each_from test 0 merged.worlds.items ≡ true
    worlds_pass test to = each_joined test (λ c n j. to (c.under.worlds n) j.image (joined_sides c n [] [] j refl refl)) (to bound is.joined.image bound_sides)

  -- tests on the functions of worlds
  functions_pass : (rule : Rule) (p : Resolve → ℕ → Function → Bool) → ((r : Resolve) → KeepsRules r → Keeps rule r)
      → ((r : Resolve) (n : ℕ) (w : World) → rule.world_ r n w ≡ list_all (p r n) (functions_of_world w))
      → ((c : Source merged) (n : ℕ) (g h : Function) → IsFunctionCopy c.under g h → p c.from n g ≡ true → p merged (c.under.worlds n) h ≡ true)
      → each_from (rule.world_ merged) 0 merged.worlds.items ≡ true
  functions_pass rule p keeps is_rule one =
      let on = λ (r : Resolve) (n : ℕ). on_function (p r n) in
      let each : Steps on = λ c n a b z. entry_function c.from merged c.under c.valid c.carried below (p c.from n) (p merged (c.under.worlds n)) (one c n) a.1 b.1 z.1 in
      worlds_pass on on each each (λ r v n w e. sym (is_rule r n w ∙ by_entries (p r n) w) ∙ world-passes rule r (keeps r v) n w e) (rule.world_ merged)
      (λ n w h. is_rule merged n w ∙ (by_entries (p merged n) w ∙ h))

  -- ---- labels

  abbrev labelled : Resolve → ℕ → WorldKey × WorldItem → Bool
  labelled r n e = key_label e.0 e.1 && item_labels e.1

  label_steps : Steps labelled
  label_steps c n = entry_labels c.from merged c.under c.valid c.carried below

  old_labels : (r : Resolve) → KeepsRules r → (n : ℕ) (w : World) → world_at r n ≡ Some w → (is_label (text_of w.name) ≡ true) × (is_stability w.stability ≡ true) × Sides labelled labelled r n w
  unfolding labels
  old_labels r v n w e =
      let h : (is_label (text_of w.name) && (is_stability w.stability && (entries_labels w.imports.entries && entries_labels w.exports.entries))) ≡ true = world-passes labels r v.labels n w e in
      let k = second_true (is_label (text_of w.name)) _ h in
      (first_true _ _ h, first_true _ _ k, second_true (is_stability w.stability) _ k)

  pub labels_kept : Keeps labels merged
  unfolding labels
  labels_kept =
      let sides = λ (r : Resolve) (v : KeepsRules r) (n : ℕ) (w : World) (e : world_at r n ≡ Some w). (old_labels r v n w e).2 in
      kept labels merged (free_passes merged 0 merged.packages.items) (each_interface (labels.interface_ merged) (λ c. interface_labels_pass c.from merged c.under c.valid c.carried below))
      (each_world (labels.world_ merged) (λ n w e apart. world-passes labels own valid_own.labels n w e) (λ n c.
      let copy = is.first_worlds n c in
      let old = old_labels other valid_other n copy.joined.old copy.joined.found in
      both _ _ (ap is_label copy.name ∙ old.0) (both _ _ (stability_alike copy.joined.image.stability copy.joined.old.stability copy.stability ∙ old.1)
      (joined_sides labelled labelled label_steps label_steps sides first_source n [] [] copy.joined refl refl))) (let old = old_labels own valid_own bound is.own_bound is.bound_at in
      both _ _ (ap (λ name. is_label (text_of name)) is.bound_name ∙ old.0) (both _ _ (ap is_stability is.bound_stability ∙ old.1) (bound_sides labelled labelled label_steps label_steps sides))))
      (each_type (labels.type_ merged) (λ c. label_passes c.from merged c.under c.valid c.carried below))

  -- ---- owners

  pub owners_kept : Keeps owners merged
  unfolding owners
  owners_kept = kept owners merged (free_passes merged 0 merged.packages.items) (each_interface (owners.interface_ merged) (λ c. interface_owners_pass c.from merged c.under c.valid c.carried below))
      (functions_pass owners (λ r n. function_stays r (as_world n)) (λ r v. v.owners) (λ r n w. refl)
      (λ c n g h z. function_stays_passes c.from merged c.under c.valid c.carried below g h z (as_world n)))
      (each_type (owners.type_ merged) (λ c. stay_passes c.from merged c.under c.valid c.carried below))

  -- ---- handles and depths

  pub handles_kept : Keeps handles merged
  unfolding handles
  handles_kept = kept handles merged (free_passes merged 0 merged.packages.items)
      (each_interface (handles.interface_ merged) (λ c. interface_handles_pass c.from merged c.under c.valid c.carried below))
      (functions_pass handles (λ r n g. list_all (λ t. not (is_resource_type r t)) (function_types g)) (λ r v. v.handles) (λ r n w. refl)
      (λ c n. function_handles_pass c.from merged c.under c.valid c.carried below)) (each_type (handles.type_ merged) (λ c. handle_passes c.from merged c.under c.valid c.carried below))

  pub depths_kept : Keeps depths merged
  unfolding depths
  depths_kept = kept depths merged (free_passes merged 0 merged.packages.items) (each_interface (depths.interface_ merged) (λ c. interface_depths_pass c.from merged c.under c.valid c.carried below))
      (functions_pass depths (λ r n g. list_all (is_shallow r) (function_types g)) (λ r v. v.depths) (λ r n w. refl) (λ c n. function_depths_pass c.from merged c.under c.valid c.carried below))
      (each_type (depths.type_ merged) (λ c. depth_passes c.from merged c.under c.valid c.carried below))

  -- ---- functions of resources

  pub function_names_kept : Keeps function_names merged
  unfolding function_names
  function_names_kept =
      let p = λ (r : Resolve) (n : ℕ) (e : WorldKey × WorldItem). passes (λ g. is_name_key (text_of g.name) e.0 && is_member r (as_world n) g) (item_function e.1) in
      let steps : Steps p = λ c n. entry_member c.from merged c.under c.valid c.carried below n in
      kept function_names merged (free_passes merged 0 merged.packages.items)
      (each_interface (function_names.interface_ merged) (λ c. interface_members_pass c.from merged c.under c.valid c.carried below))
      (worlds_pass p p steps steps (λ r v n w e. sym (list_all-append (p r n) w.imports.entries w.exports.entries) ∙ world-passes function_names r v.function_names n w e)
      (function_names.world_ merged) (λ n w h. list_all-append (p merged n) w.imports.entries w.exports.entries ∙ h)) (free_passes merged 0 merged.types.items)

  -- ---- items

  pub world_items_kept : Keeps world_items merged
  unfolding world_items
  world_items_kept = worlds_keep world_items.world_ merged (worlds_pass (λ r n e. import_stands r n e.0 e.1) (λ r n e. export_stands r e.0 e.1)
      (λ c n. entry_import_stands c.from merged c.under c.valid c.carried below n) (λ c n. entry_export_stands c.from merged c.under c.valid c.carried below)
      (λ r v. world-passes world_items r v.world_items) (world_items.world_ merged) (λ n w h. h))

  -- ---- order of items

  bound_carried : (itself own).carries_world bound ≡ true
  bound_carried = lt-ltb bound _ (slice_get_within own.worlds.items bound is.own_bound is.bound_at)

  own_order : each_after (uses_stand_before merged bound) [] (items own_imports ++ items own_exports) ≡ true
  unfolding order_of_items
  own_order =
      let range = world_range own valid_own bound is.own_bound is.bound_at in
      order_passes own merged (itself own) valid_own own_source.carried below bound bound_carried [] [] own_imports own_exports own_imports own_exports
      (joined_itself own valid_own own_imports range.0) (joined_itself own valid_own own_exports range.1) refl (world-passes order_of_items own valid_own.order_of_items bound is.own_bound is.bound_at)

  pub order_of_items_kept : Keeps order_of_items merged
  unfolding order_of_items
  order_of_items_kept = worlds_keep order_of_items.world_ merged (each_joined (order_of_items.world_ merged) (λ c n j. world_order_passes c.from merged c.under c.valid c.carried below n [] [] j refl)
      (subst (λ (k : ℕ). each_after (uses_stand_before merged k) [] (items own_imports ++ items own_exports) ≡ true → order_of_items.world_ merged k is.joined.image ≡ true) is.bound_there
      (world_order_passes other merged second valid_other is.second_copies.carried below other_bound own_imports own_exports is.joined) own_order))

  -- ---- order of types

  -- a copy is listed as it was, where worlds list it
  copy_listed : (c : Source merged) (n : ℕ) (copy : c.under.copies_type n ≡ true)
      → ((w : ℕ) → c.under.carries_world w ≡ true → (name : Text) → passes (is_listed_in_world n name) (world_at c.from w) ≡ true
      → passes (is_listed_in_world (c.under.types n) name) (world_at merged (c.under.worlds w)) ≡ true) → order_of_types.type_ merged (c.under.types n) (type_of c n copy).image ≡ true
  unfolding order_of_types
  copy_listed c n copy worlds = both _ _ (copy_refers merged c n copy) (go t.def.name t.image.name t.name (second_true (list_all (λ m. nat_lt m n) (kind_numbers t.def.kind)) _ old))
    where
      t : IsType c.from merged c.under n
      t = c.carried.types n (c.carried.copied_types n copy)

      old : (list_all (λ m. nat_lt m n) (kind_numbers t.def.kind) && option_map_or (λ name. is_listed c.from n (text_of name) t.def.owner) t.def.name (same_owner t.def.owner owner.None)) ≡ true
      old = type_passes order_of_types c.from c.valid.order_of_types n t.def t.found

      by_owner : (o : TypeOwner) → copies_owner c.under o ≡ true → (name : Text) → is_listed c.from n name o ≡ true → is_listed merged (c.under.types n) name (owner_under c.under o) ≡ true
      by_owner (owner.Interface id) d name h =
          let i = c.carried.interfaces id.0 (c.carried.copied_interfaces id.0 d) in
          ap (passes (is_listed_in_interface (c.under.types n) name)) i.at_image
          ∙ listed_in_interface c.from merged c.under c.valid c.carried below id.0 d n copy name (sym (ap (passes (is_listed_in_interface n name)) i.found) ∙ h)
      by_owner (owner.World id) d name h = worlds id.0 d name h
      by_owner owner.None d name h = no_true h

      go : (x y : Option (String Global)) → optional_text y ≡ optional_text x → option_map_or (λ name. is_listed c.from n (text_of name) t.def.owner) x (same_owner t.def.owner owner.None) ≡ true
          → option_map_or (λ name. is_listed merged (c.under.types n) (text_of name) t.image.owner) y (same_owner t.image.owner owner.None) ≡ true
      go None None e h = ap (λ o. same_owner o owner.None) t.home ∙ (unowned c.under t.def.owner ∙ h)
      go (Some x) (Some y) e h =
          let same : text_of y ≡ text_of x = same-some (text_of y) (text_of x) e in
          (λ i. is_listed merged (c.under.types n) (same i) (t.home i)) ∙ by_owner t.def.owner (t.copied copy).home (text_of x) h
      go _ _ e h = absurd cc

  -- ---- worlds

  own_imports_range : entries_in_range own own_imports ≡ true
  own_imports_range = (world_range own valid_own bound is.own_bound is.bound_at).0

  own_listed : (n : ℕ) → in_list own.types.items n ≡ true → (w : ℕ) → in_list own.worlds.items w ≡ true → (name : Text) → passes (is_listed_in_world n name) (world_at own w) ≡ true
      → passes (is_listed_in_world n name) (world_at merged w) ≡ true
  own_listed n low w c name h =
      let x = found-in own.worlds.items w c in
      by_number w bound (λ same.
      let old : passes (is_listed_in_world n name) (world_at own bound) ≡ true = subst (λ (k : ℕ). passes (is_listed_in_world n name) (world_at own k) ≡ true) same h in
      ap (passes (is_listed_in_world n name)) (ap (world_at merged) same ∙ bound_found) ∙ entries (sym (ap (passes (is_listed_in_world n name)) is.bound_at) ∙ old))
      (λ apart. ap (passes (is_listed_in_world n name)) (is.worlds w x.0 x.1 apart) ∙ (sym (ap (passes (is_listed_in_world n name)) x.1) ∙ h))
    where
      entries : is_listed_in_world n name is.own_bound ≡ true → is_listed_in_world n name is.joined.image ≡ true
      entries k = subst (λ (es : List (WorldKey × WorldItem)). (is_id n (option_and_then item_type (lookup (is_name_key name) es)) && (count_by (λ m. m == n) (filter_map item_type (items es)) == 1))
          ≡ true) (sym is.joined.imports) (stays_listed name n own_imports is.joined.new_imports
          (fresh_added second own_imports (length own.types.items) is.second_copies.new_types n (ltb-true n (length own.types.items) low) is.joined.old.imports.entries is.joined.new_imports
          is.joined.joined_imports) k)

  joined_listed : (c : Source merged) (n : ℕ) → c.under.copies_type n ≡ true → (name : Text) (w : ℕ) (oi oe : List (WorldKey × WorldItem)) (j : IsJoined c.from merged c.under w oi oe)
      → has (filter_map item_type (items oi)) (c.under.types n) ≡ false → passes (is_listed_in_world n name) (world_at c.from w) ≡ true
      → passes (is_listed_in_world (c.under.types n) name) (world_at merged (c.under.worlds w)) ≡ true
  joined_listed c n copy name w oi oe j fresh h = ap (passes (is_listed_in_world (c.under.types n) name)) j.at_image
      ∙ listed_in_world c.from merged c.under c.valid c.carried below n copy name w oi oe j fresh (sym (ap (passes (is_listed_in_world n name)) j.found) ∙ h)

  -- ---- the own part of the bound world

  abbrev own_numbers : List ℕ
  own_numbers = filter_map item_type (items own_imports)

  own_types : (list_all (is_named_of own (as_world bound)) own_numbers && are_in_order own own_numbers) ≡ true
  unfolding order_of_types
  own_types = world-passes order_of_types own valid_own.order_of_types bound is.own_bound is.bound_at

  own_named : list_all (is_named_of merged (as_world bound)) own_numbers ≡ true
  own_named = sym (ap (list_all (is_named_of merged (as_world bound))) (map_same (λ n. n) (λ n. refl) own_numbers))
      ∙ all_named_of own merged (itself own) valid_own own_source.carried below (as_world bound) own_numbers (range_types own own_imports own_imports_range) (first_true _ _ own_types)

  all_there : world_type_numbers is.joined.image ≡ filter_map item_type (items own_imports ++ items is.joined.new_imports)
  all_there = search (std_rules, items, map-append)

  own_type_order : each_after (in_order merged (world_type_numbers is.joined.image)) [] own_numbers ≡ true
  own_type_order = types_in_order own merged (itself own) valid_own own_source.carried below own_numbers (world_type_numbers is.joined.image) back [] own_imports own_imports
      (joined_itself own valid_own own_imports own_imports_range) (second_true (list_all (is_named_of own (as_world bound)) own_numbers) _ own_types)
    where
      back : (m : ℕ) → in_list own.types.items m ≡ true → has (world_type_numbers is.joined.image) m ≡ true → has own_numbers m ≡ true
      back m c h = sym (ap (λ ns. has ns m) all_there ∙ (numbers_append item_type (items own_imports) (items is.joined.new_imports) m
          ∙ (ap (λ b. has own_numbers m || b) (fresh_added second own_imports (length own.types.items) is.second_copies.new_types m (ltb-true m (length own.types.items) c)
          is.joined.old.imports.entries is.joined.new_imports is.joined.joined_imports) ∙ or_false (has own_numbers m)))) ∙ h

  -- order of types
  pub order_of_types_kept : Keeps order_of_types merged
  unfolding order_of_types
  order_of_types_kept = kept order_of_types merged (free_passes merged 0 merged.packages.items)
      (each_interface (order_of_types.interface_ merged) (λ c n copy. interface_order_passes c.from merged c.under c.valid c.carried below n copy))
      (each_joined (order_of_types.world_ merged) (λ c n j. world_types_pass c.from merged c.under c.valid c.carried below n [] [] j refl refl)
      (subst (λ (k : ℕ). order_of_types.world_ merged k is.joined.image ≡ true) is.bound_there
      (world_types_pass other merged second valid_other is.second_copies.carried below other_bound own_imports own_exports is.joined
      (subst (λ (k : ℕ). list_all (is_named_of merged (as_world k)) own_numbers ≡ true) (sym is.bound_there) own_named) own_type_order)))
      (each_type_of_three (order_of_types.type_ merged) (λ n copy. copy_listed own_source n copy (own_listed n copy))
      (λ n copy. copy_listed first_source n copy (λ w c name. joined_listed first_source n copy name w [] [] (is.first_worlds w c).joined refl))
      (λ n copy. copy_listed second_source n copy (λ w c name. subst (λ (k : ℕ). passes (is_listed_in_world n name) (world_at other k) ≡ true
      → passes (is_listed_in_world (second.types n) name) (world_at merged (second.worlds k)) ≡ true) (sym (is.second_worlds w c))
      (joined_listed second_source n copy name other_bound own_imports own_exports is.joined
      (past_range own.types.items _ (second.types n) (range_types own own_imports own_imports_range) (is.second_copies.new_types n copy))))))

  -- ---- numbers in range

  -- the package of what is carried is there
  package_in_range : (c : Source merged) (p : Option ℕ) → passes (in_list c.from.packages.items) p ≡ true → passes (in_list merged.packages.items) (option_map c.under.packages p) ≡ true
  package_in_range c = by_package c.from (λ p. passes (in_list merged.packages.items) (option_map c.under.packages p) ≡ true) refl
      (λ n p e. let q = c.carried.packages n p e in lt-ltb _ _ (slice_get_within merged.packages.items (c.under.packages n) q.image q.at_image))

  types_in_range : (c : Source merged) (ns : List ℕ) → list_all c.under.carries_type ns ≡ true → list_all (in_list merged.types.items) (map c.under.types ns) ≡ true
  types_in_range c ns h = list_all-map (in_list merged.types.items) c.under.types ns
      ∙ all_weaker c.under.carries_type (λ n. in_list merged.types.items (c.under.types n))
      (λ n d. let t = c.carried.types n d in lt-ltb _ _ (slice_get_within merged.types.items (c.under.types n) t.image t.at_image)) ns h

  interface_in_range : (c : Source merged) (n : ℕ) (copy : c.under.copies_interface n ≡ true)
      → passes (in_list merged.packages.items) (package_number (c.carried.interfaces n (c.carried.copied_interfaces n copy)).image.«package») ≡ true
      → numbers_in_range.interface_ merged (c.under.interfaces n) (c.carried.interfaces n (c.carried.copied_interfaces n copy)).image ≡ true
  unfolding numbers_in_range
  interface_in_range c n copy package_ =
      let i = c.carried.interfaces n (c.carried.copied_interfaces n copy) in
      both _ _ (place_below (c.under.interfaces n) (length merged.interfaces.items) (slice_get_within merged.interfaces.items (c.under.interfaces n) i.image i.at_image) is.few_interfaces) (both _ _
      package_ (both _ _ (sym (list_all-map (in_list merged.types.items) (λ (id : TypeId). id.0) (values i.image.types))
      ∙ (ap (list_all (in_list merged.types.items)) (type_numbers c.from merged c.under c.valid c.carried below n copy)
      ∙ types_in_range c (interface_type_numbers i.old) (copies_carried c.from merged c.under c.valid c.carried below (interface_type_numbers i.old)
      (all_copies c.from merged c.under c.valid c.carried below n copy))))
      (each_function c.from merged c.under c.valid c.carried below n copy (λ g. true) (function_in_range merged)
      (λ a b z h. function_range_passes c.from merged c.under c.valid c.carried below a.1 b.1 z.1) (all_pass (λ g. true) (functions_of_interface i.old) (λ g e. refl)))))

  kinds_in_range : (c : Source merged) (n : ℕ) (copy : c.under.copies_type n ≡ true)
      → list_all (in_list merged.types.items) (kind_numbers (c.carried.types n (c.carried.copied_types n copy)).image.kind) ≡ true
  kinds_in_range c n copy =
      let t = c.carried.types n (c.carried.copied_types n copy) in
      let k = (t.copied copy).kind in
      ap (list_all (in_list merged.types.items)) (numbers_same c.under.types t.def.kind t.image.kind k.kinds)
      ∙ types_in_range c (kind_numbers t.def.kind) (ap (list_all c.under.carries_type) (sym (numbers_of_view t.def.kind)) ∙ k.parts)

  type_in_range : (c : Source merged) (n : ℕ) (copy : c.under.copies_type n ≡ true) → ((w : ℕ) → c.under.carries_world w ≡ true → in_list merged.worlds.items (c.under.worlds w) ≡ true)
      → numbers_in_range.type_ merged (c.under.types n) (c.carried.types n (c.carried.copied_types n copy)).image ≡ true
  unfolding numbers_in_range
  type_in_range c n copy worlds =
      let t = c.carried.types n (c.carried.copied_types n copy) in
      both _ _ (place_below (c.under.types n) (length merged.types.items) (slice_get_within merged.types.items (c.under.types n) t.image t.at_image) is.few_types)
      (both _ _ (kinds_in_range c n copy) (ap (owner_in_range merged) t.home ∙ by_owner t.def.owner t.carries_home))
    where
      by_owner : (o : TypeOwner) → carries_owner c.under o ≡ true → owner_in_range merged (owner_under c.under o) ≡ true
      by_owner (owner.World id) h = worlds id.0 h
      by_owner (owner.Interface id) h = let i = c.carried.interfaces id.0 h in lt-ltb _ _ (slice_get_within merged.interfaces.items (c.under.interfaces id.0) i.image i.at_image)
      by_owner owner.None h = refl

  bound_in_range : in_list merged.worlds.items bound ≡ true
  bound_in_range = search (std_rules, items, lt-ltb, slice_get_within)

  own_worlds_there : (w : ℕ) → in_list own.worlds.items w ≡ true → in_list merged.worlds.items w ≡ true
  own_worlds_there w c =
      let x = found-in own.worlds.items w c in
      by_number w bound (λ same. subst (λ (k : ℕ). in_list merged.worlds.items k ≡ true) (sym same) bound_in_range)
      (λ apart. lt-ltb _ _ (slice_get_within merged.worlds.items w x.0 (is.worlds w x.0 x.1 apart)))

  first_worlds_there : (w : ℕ) → first.carries_world w ≡ true → in_list merged.worlds.items (first.worlds w) ≡ true
  first_worlds_there w c = let j = (is.first_worlds w c).joined in lt-ltb _ _ (slice_get_within merged.worlds.items (first.worlds w) j.image j.at_image)

  second_worlds_there : (w : ℕ) → second.carries_world w ≡ true → in_list merged.worlds.items (second.worlds w) ≡ true
  second_worlds_there w c = subst (λ (k : ℕ). in_list merged.worlds.items (second.worlds k) ≡ true) (sym (is.second_worlds w c))
      (lt-ltb _ _ (slice_get_within merged.worlds.items (second.worlds other_bound) is.joined.image is.joined.at_image))

  own_package : (p : Option ℕ) → passes (in_list own.packages.items) p ≡ true → passes (in_list merged.packages.items) p ≡ true
  own_package p h = ap (passes (in_list merged.packages.items)) (sym (same_option p)) ∙ package_in_range own_source p h

  world_number : (n : ℕ) (w : World) → world_at merged n ≡ Some w → is_place n ≡ true
  world_number n w e = place_below n (length merged.worlds.items) (slice_get_within merged.worlds.items n w e) is.few_worlds

  abbrev in_range : Resolve → ℕ → WorldKey × WorldItem → Bool
  in_range r n e = key_in_range r e.0 && item_in_range r e.1

  range_steps : Steps in_range
  range_steps c n a b z h = entry_range c.from merged c.under c.valid c.carried below a b z refl

  in_ranges : (r : Resolve) → KeepsRules r → (n : ℕ) (w : World) → world_at r n ≡ Some w → Sides in_range in_range r n w
  in_ranges r v n w e = let range = world_range r v n w e in both _ _ range.0 range.1

  -- numbers in range
  pub numbers_in_range_kept : Keeps numbers_in_range merged
  unfolding numbers_in_range
  numbers_in_range_kept = kept numbers_in_range merged (each_by_number (numbers_in_range.package_ merged) merged.packages.items (λ n q e.
      let h = all_stand own other merged bound other_bound first second left_out valid_own valid_other is n q e in
      both _ _ (place_below n (length merged.packages.items) (slice_get_within merged.packages.items n q e) is.few_packages) (ranges_hold merged n q h.0 h.1)))
      (each_interface_of_three (numbers_in_range.interface_ merged) (λ n i e.
      let low = lt-ltb n (length own.interfaces.items) (slice_get_within own.interfaces.items n i e) in
      let v = own_source.carried.interfaces n (own_source.carried.copied_interfaces n low) in
      let same : v.image ≡ i = same-some v.image i (sym v.at_image ∙ get_begin own.interfaces.items merged.interfaces.items is.interfaces n i e) in
      subst (λ (x : Interface). numbers_in_range.interface_ merged n x ≡ true) same
      (interface_in_range own_source n low (ap (λ x. passes (in_list merged.packages.items) (package_number x.«package»)) same
      ∙ own_package (package_number i.«package») (interface_package own valid_own n i e)))) (λ n copy.
      let c = is.first_copies.carried.copied_interfaces n copy in
      let v = is.first_copies.carried.interfaces n c in
      interface_in_range first_source n copy (ap (passes (in_list merged.packages.items)) (is.first_packages n c)
      ∙ package_in_range first_source (package_number v.old.«package») (interface_package other valid_other n v.old v.found))) (λ n copy.
      let c = is.second_copies.carried.copied_interfaces n copy in
      interface_in_range second_source n copy (ap (passes (in_list merged.packages.items)) (is.second_package n c copy)
      ∙ own_package (package_number is.own_bound.«package») (world_package own valid_own bound is.own_bound is.bound_at)))) (each_world (numbers_in_range.world_ merged) (λ n w e apart.
      both _ _ (world_number n w (is.worlds n w e apart)) (both _ _ (own_package (package_number w.«package») (world_package own valid_own n w e))
      (joined_sides in_range in_range range_steps range_steps in_ranges own_source n [] [] (own_joined n w e apart) refl refl))) (λ n c.
      let w = is.first_worlds n c in
      let j = w.joined in
      both _ _ (world_number (first.worlds n) j.image j.at_image) (both _ _
      (ap (passes (in_list merged.packages.items)) w.in_package ∙ package_in_range first_source (package_number j.old.«package») (world_package other valid_other n j.old j.found))
      (joined_sides in_range in_range range_steps range_steps in_ranges first_source n [] [] j refl refl)))
      (both _ _ (world_number bound is.joined.image bound_found) (both _ _
      (ap (λ p. passes (in_list merged.packages.items) (package_number p)) is.bound_package
      ∙ own_package (package_number is.own_bound.«package») (world_package own valid_own bound is.own_bound is.bound_at)) (bound_sides in_range in_range range_steps range_steps in_ranges))))
      (each_type_of_three (numbers_in_range.type_ merged) (λ n copy. type_in_range own_source n copy own_worlds_there) (λ n copy. type_in_range first_source n copy first_worlds_there)
      (λ n copy. type_in_range second_source n copy second_worlds_there))
