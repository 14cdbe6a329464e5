-- Maps that are built of lists whose keys differ.
use Rattle.std.proofs.Common.{rules as std_rules, ◌≡◌, refl, sym, ap, ◌∙◌, ℕ, zero, suc, ◌+◌, ◌<◌, Bool, true, false, ◌&&◌, not, List, [], ◌∷◌, ◌++◌, map, take, length, get_or, option_map, Some, slice_get}
use Rattle.std.proofs.lemmas.{List.map-append, List.take-map, Bool.not-true as not_true, Bool.or_from as none_or, Bool.or_parts as none_of}
use Rattle.std.proofs.lemmas.Option.{slice_get-get_or, slice_get-map as get_of_map}
use Rattle.std.specs.{List.list_any, List.AllByRecursion, Map.keys_of, Map.values_of}
use Rattle.indexmap.specs.IndexMap.{insert_entry}
use Rattle.indexmap.proofs.MapLemmas.{insert_entry-absent}
use Rattle.plan_build.proofs.Listing.{one_more}
use Rattle.base_lemmas.proofs.{Bools.left_of as first_true, Bools.right_of as second_true, Lists.map_of_map}

-- the values, where an entry comes last
pub values_more : {K V : Type 0} (es new : List (K × V)) (k : K) (v : V) → new ≡ es ++ (k, v) ∷ [] → values_of new ≡ values_of es ++ v ∷ []
values_more {K} {V} es new k v last = ap values_of last ∙ map-append (λ (e : K × V). e.1) es ((k, v) ∷ [])

-- no two are alike
abbrev pub differ : {C : Type 0} → (C → C → Bool) → List C → Bool
differ same [] = true
differ same (c ∷ cs) = not (list_any (same c) cs) && differ same cs

module _ {C : Type 0} (same : C → C → Bool) (flips : (a b : C) → same a b ≡ same b a) where
  unlike : (d c : C) (ds : List C) (i : ℕ) → list_any (same d) ds ≡ false → slice_get ds i ≡ Some c → same d c ≡ false
  unlike d c [] i h e = absurd cc
  unlike d c (x ∷ ds) zero h e = let here : x ≡ c = cc in ap (same d) (sym here) ∙ (none_of (same d x) (list_any (same d) ds) h).0
  unlike d c (x ∷ ds) (suc i) h e = unlike d c ds i (none_of (same d x) (list_any (same d) ds) h).1 e

  -- each is unlike those before it
  pub fresh : (cs : List C) (i : ℕ) (c : C) → differ same cs ≡ true → slice_get cs i ≡ Some c → list_any (same c) (take i cs) ≡ false
  fresh [] i c h e = absurd cc
  fresh (d ∷ ds) zero c h e = refl
  fresh (d ∷ ds) (suc i) c h e = search (std_rules, none_or, unlike, not_true, first_true, second_true, fresh ds i c (second_true (not (list_any (same d) ds)) (differ same ds) h) e)

  module _ {K V W A : Type 0} (eq : K → K → Bool) (view : K → C) (agrees : (a b : K) → eq a b ≡ same (view a) (view b)) (f : V → W) (g : A → C × W) where
    -- an entry of the map as one of the list
    abbrev seen : K × V → C × W
    seen e = (view e.0, f e.1)

    absent : (k : K) (es : List (K × V)) → list_any (same (view k)) (map (λ e. view e.0) es) ≡ false → AllByRecursion (λ q. eq k q ≡ false) (keys_of es)
    absent k [] h = tt
    absent k (e ∷ es) h = let split = none_of (same (view k) (view e.0)) (list_any (same (view k)) (map (λ x. view x.0) es)) h in (agrees k e.0 ∙ split.0, absent k es split.1)

    module _ (es new : List (K × V)) (xs : List A) (i : ℕ) (x : A) (k : K) (v : V) (within : i < length xs) (is : x ≡ get_or xs i x) (added : new ≡ insert_entry eq es k v) (key : view k ≡ (g x).0)
        (apart : differ same (map (λ a. (g a).0) xs) ≡ true) (before : map seen es ≡ map g (take i xs)) where
      keys : map (λ e. view e.0) es ≡ take i (map (λ a. (g a).0) xs)
      keys = sym (map_of_map (λ (c : C × W). c.0) seen es) ∙ (ap (map (λ (c : C × W). c.0)) before ∙ (map_of_map (λ (c : C × W). c.0) g (take i xs) ∙ sym (take-map (λ a. (g a).0) i xs)))

      here : slice_get (map (λ a. (g a).0) xs) i ≡ Some ((g x).0)
      here = get_of_map (λ a. (g a).0) xs i ∙ ap (option_map (λ a. (g a).0)) (slice_get-get_or xs i x within ∙ ap Some (sym is))

      none : list_any (same (view k)) (map (λ e. view e.0) es) ≡ false
      none = ap (list_any (same (view k))) keys ∙ (ap (λ c. list_any (same c) (take i (map (λ a. (g a).0) xs))) key ∙ fresh (map (λ a. (g a).0) xs) i ((g x).0) apart here)

      -- a new key goes last
      pub goes_last : new ≡ es ++ (k, v) ∷ []
      goes_last = added ∙ insert_entry-absent eq k v es (absent k es none)

      -- one entry more of both
      pub entry_more : f v ≡ (g x).1 → map seen new ≡ map g (take (i + 1) xs)
      entry_more value = one_more g xs i x within is seen es new (k, v) goes_last before (λ j. (key j, value j))
