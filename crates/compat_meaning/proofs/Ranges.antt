-- What a valid `Resolve` has is in range.
use Rattle.std.proofs.Common.{◌≡◌, refl, ap, ◌∙◌, sym, ℕ, true, ◌&&◌, List, Bor, length, slice_get, Option, Some, None, option_map, option_and_then}
use Rattle.std.proofs.lemmas.{Bool.ltb-true as is_below, Map.Iter.rest_more, Option.same_Some as same-some}
use Rattle.std.specs.Map.Iter.{TakesFirst, deref_pair}
use Rattle.indexmap.specs.IndexMap.{values}
use Rattle.wit_model.specs.declared.model.{Resolve.Resolve, Interface.Interface, World.World, WorldKey.WorldKey, WorldItem.WorldItem}
use Rattle.wit_model.specs.{Lookup.interface_at, Lookup.world_at, Rules.entries_in_range, Rules.function_in_range, Rules.in_list, Rules.item_in_range, Rules.key_in_range}
use Rattle.wit_model.specs.Valid.{IsValid}
use Rattle.compat_meaning.specs.{Compatible.HasItemsInRange, Senses.import_at, TwoSides.HasTypesInRange}
use Rattle.compat_meaning.proofs.Validity.{function_types_in_range, interface_numbers, world_numbers}
use Rattle.base_lemmas.proofs.{Bools.left_of as first_true, Bools.right_of as second_true, Elements.all-contained as all_contained, Elements.get-contains}

-- what comes first of entries that are in range is so, and what follows it
pub next_in_range : (r : Resolve) (rest next : List (WorldKey × WorldItem)) (o : Option (Bor WorldKey × Bor WorldItem)) (x : Bor WorldKey × Bor WorldItem) → o ≡ Some x
    → TakesFirst deref_pair rest o next → entries_in_range r rest ≡ true → (key_in_range r x.0.now ≡ true) × (item_in_range r x.1.now ≡ true) × (entries_in_range r next ≡ true)
next_in_range r rest next o x is steps h =
    let all : ((key_in_range r x.0.now && item_in_range r x.1.now) && entries_in_range r next) ≡ true = ap (entries_in_range r) (sym (rest_more deref_pair rest next o x is steps)) ∙ h in
    let both = first_true (key_in_range r x.0.now && item_in_range r x.1.now) (entries_in_range r next) all in (
      first_true (key_in_range r x.0.now) (item_in_range r x.1.now) both,
      second_true (key_in_range r x.0.now) (item_in_range r x.1.now) both,
      second_true (key_in_range r x.0.now && item_in_range r x.1.now) (entries_in_range r next) all,
    )

module _ (r : Resolve) (v : IsValid r) where
  pub has_types : (n : ℕ) (i : Interface) → interface_at r n ≡ Some i → HasTypesInRange r i
  has_types n i at = record {
    types = λ id c. is_below id.0 (length r.types.items) (all_contained (λ id. in_list r.types.items id.0) (values i.types) id (interface_numbers r v n i at).0 c);
    functions = λ f c. function_types_in_range r f (all_contained (function_in_range r) (values i.functions) f (interface_numbers r v n i at).1 c);
  }

  pub has_items : (n : ℕ) (w : World) → world_at r n ≡ Some w → HasItemsInRange r w
  has_items n w at = let both = world_numbers r v n w at in record { imports = both.0; exports = both.1 }

  pub import_in_range : (w n : ℕ) (i : WorldItem) → import_at r w n ≡ Some i → item_in_range r i ≡ true
  import_in_range w n i e = by (world_at r w) refl e
    where
      at : (world : World) → world_at r w ≡ Some world → (o : Option (WorldKey × WorldItem)) → slice_get world.imports.entries n ≡ o → option_map (λ e. e.1) o ≡ Some i → item_in_range r i ≡ true
      at world there None q h = absurd (let wrong : ⊥ = cc in wrong)
      at world there (Some x) q h =
          let both = all_contained (λ e. key_in_range r e.0 && item_in_range r e.1) world.imports.entries x (world_numbers r v w world there).0 (get-contains world.imports.entries n x q) in
          ap (item_in_range r) (sym (same-some x.1 i h)) ∙ second_true (key_in_range r x.0) (item_in_range r x.1) both

      by : (o : Option World) → world_at r w ≡ o → option_and_then (λ world. option_map (λ e. e.1) (slice_get world.imports.entries n)) o ≡ Some i → item_in_range r i ≡ true
      by None q h = let wrong : ⊥ = cc in absurd wrong
      by (Some world) q h = at world q (slice_get world.imports.entries n) refl h
