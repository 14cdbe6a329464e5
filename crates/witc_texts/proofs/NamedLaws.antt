-- Worlds of a valid `Resolve` by their names.
use Rattle.std.proofs.Common.{rules as std_rules, ◌≡◌, ◌<◌, ◌≤◌, ◌⊎◌, ℕ, List, length, slice_get, get_or, nat_lt, ltb→lt, T, true, inl, inr, sym, ap, subst, ◌∙◌, Option, Some, None, option_and_then, IfSome, arith}
use Rattle.std.proofs.lemmas.Option.{slice_get_cases}
use Rattle.std.specs.{HashMap.get_by_text, List.IsAmong, List.list_all}
use Rattle.indexmap.specs.IndexMap.{values}
use Rattle.wit_model.specs.declared.model.{Package.Package, Resolve.Resolve, WorldId.WorldId}
use Rattle.wit_model.specs.{Lookup.package_at, Lookup.world_at, Rules.in_list, Valid.IsValid, Valid.numbers_in_range}
use Rattle.wit_model.proofs.Entries.{each_from_at, lists_pass}
use Rattle.witc_texts.specs.Named.{NamesWorld, world_named}
use Rattle.base_lemmas.proofs.{Bools.right_of as second_true, Elements.all-contained}

stands : {X : Type 0} (xs : List X) (n : ℕ) → nat_lt n (length xs) ≡ true → (x : X) × (slice_get xs n ≡ Some x)
stands {X = X} xs n h = by (slice_get_cases xs n).1
  where
    by : ((x : X) × (n < length xs) × (slice_get xs n ≡ Some x) × (get_or xs n x ≡ x)) ⊎ ((length xs ≤ n) × (slice_get xs n ≡ None)) → (x : X) × (slice_get xs n ≡ Some x)
    by (inl (x, lt, at, is)) = (x, at)
    by (inr (le, none)) = absurd (let lt : n < length xs = ltb→lt n (length xs) (subst T (sym h) tt) in omega (arith, le, lt))

module _ (r : Resolve) (v : IsValid r) (n : ℕ) (p : Package) (at : package_at r n ≡ Some p) where
  worlds_in_range : list_all (λ id. in_list r.worlds.items id.0) (values p.worlds) ≡ true
  unfolding numbers_in_range
  worlds_in_range = search (std_rules, each_from_at, lists_pass, second_true)

  -- what a look-up finds
  pub found : (name : List ℕ) (o : Option WorldId) → o ≡ get_by_text p.worlds name → IfSome o (λ id. IsAmong (values p.worlds) id) → NamesWorld r n name o
  found name o e among = go o (ap (option_and_then (λ (q : Package). option_and_then (λ id. world_at r id.0) (get_by_text q.worlds name))) at ∙ ap (option_and_then (λ (id : WorldId). world_at r id.0))
      (sym e)) among
    where
      go : (o : Option WorldId) → world_named r n name ≡ option_and_then (λ (id : WorldId). world_at r id.0) o → IfSome o (λ id. IsAmong (values p.worlds) id) → NamesWorld r n name o
      go None is among = is
      go (Some id) is (i, h) =
          let w = stands r.worlds.items id.0 (all-contained (λ (id : WorldId). in_list r.worlds.items id.0) (values p.worlds) id worlds_in_range (i, h.0, sym h.1)) in
          (w.0, w.1, is ∙ w.1)
