-- Items that are given new values one after the other, where they stand.
use Rattle.std.proofs.Common.{rules as std_rules, ◌≡◌, refl, sym, ap, subst, ◌∙◌, ℕ, ◌+◌, ◌≤◌, List, [], ◌∷◌, ◌++◌, length, set, append_assoc, Some, slice_get}
use Rattle.std.proofs.{lemmas.List.length-append, lemmas.List.Elements.length_all_zip, lemmas.List.Elements.AllZip-push, Math.Seq.set-append_seam}
use Rattle.std.specs.{List.AllZip, Map.values_of}
use Rattle.indexmap.specs.IndexMap.{set_value_at}
use Rattle.indexmap.proofs.EntryLemmas.{set_middle}
use Rattle.base_lemmas.proofs.{Lists.none_there, Options.some_is}
use Rattle.bind_copy.specs.Copies.{AreWrittenSoFar}

-- what stands behind the front of a list
at_seam : {X : Type 0} (done rest : List X) → slice_get (done ++ rest) (length done) ≡ slice_get rest 0
at_seam [] rest = refl
at_seam (x ∷ xs) rest = at_seam xs rest

values_seam : {K V : Type 0} (done rest : List (K × V)) → slice_get (values_of (done ++ rest)) (length done) ≡ slice_get (values_of rest) 0
values_seam [] rest = refl
values_seam (e ∷ es) rest = values_seam es rest

module _ {X : Type 0} (R : X → X → Type 0) (Left : List X → Type 0) where
  -- nothing is written yet
  pub none_written : (xs : List X) → Left xs → AreWrittenSoFar R Left xs xs 0
  none_written xs l = record { front = []; rest = xs; done = []; were = refl; are = refl; each = tt; count = refl; left = l }

  -- one is written
  written : (old now new : List X) (place : ℕ) (s : AreWrittenSoFar R Left old now place) (x y : X) (rest : List X) → s.rest ≡ x ∷ rest → R x y → Left rest
      → new ≡ s.done ++ y ∷ rest → AreWrittenSoFar R Left old new (place + 1)
  written old now new place s x y rest at r l is = search (std_rules, append_assoc, AllZip-push, length-append)

  -- the list is as long as it was
  pub written_long : (old now : List X) (place : ℕ) → AreWrittenSoFar R Left old now place → length now ≡ length old
  written_long old now place s = search (std_rules, length-append, length_all_zip)

  -- all are written
  pub all_written : (old now : List X) (place : ℕ) → length now ≤ place → AreWrittenSoFar R Left old now place → AllZip R old now
  all_written old now place past s = go s.rest refl
    where
      go : (l : List X) → s.rest ≡ l → AllZip R old now
      go [] at = search std_rules
      go (x ∷ xs) at = search (std_rules, length-append)

-- ---- in a list

module _ {X : Type 0} (R : X → X → Type 0) (Left : List X → Type 0) (tail : (x : X) (xs : List X) → Left (x ∷ xs) → Left xs) where
  pub item_written : (old now new : List X) (place : ℕ) (x y : X) → slice_get now place ≡ Some x → ((xs : List X) → Left (x ∷ xs) → R x y) → new ≡ set now place y
      → AreWrittenSoFar R Left old now place → AreWrittenSoFar R Left old new (place + 1)
  item_written old now new place x y at r is s = go s.rest refl
    where
      here : slice_get s.rest 0 ≡ Some x
      here = sym (at_seam s.done s.rest) ∙ ((λ i. slice_get (sym s.are i) (s.count i)) ∙ at)

      go : (l : List X) → s.rest ≡ l → AreWrittenSoFar R Left old new (place + 1)
      go [] none = absurd (none_there 0 x (ap (λ l. slice_get l 0) (sym none) ∙ here))
      go (z ∷ zs) some =
          let same : z ≡ x = some_is z x (ap (λ l. slice_get l 0) (sym some) ∙ here) in
          let rest : s.rest ≡ x ∷ zs = some ∙ ap (λ w. w ∷ zs) same in
          let left : Left (x ∷ zs) = subst Left rest s.left in
          written R Left old now new place s x y zs rest (r zs left) (tail x zs left) (is ∙ ((λ i. set ((s.are ∙ ap (λ l. s.done ++ l) rest) i) (sym s.count i) y) ∙ set-append_seam s.done x zs y))

-- ---- in a map

module _ {K V : Type 0} (R : K × V → K × V → Type 0) (Left : List (K × V) → Type 0) (tail : (x : K × V) (xs : List (K × V)) → Left (x ∷ xs) → Left xs) where
  -- the value at the place is the first of those that are left
  pub value_left : (old now : List (K × V)) (place : ℕ) (v : V) → slice_get (values_of now) place ≡ Some v → AreWrittenSoFar R Left old now place
      → (k : K) × ((rest : List (K × V)) × Left ((k, v) ∷ rest))
  value_left old now place v at s = go s.rest refl
    where
      here : slice_get (values_of s.rest) 0 ≡ Some v
      here = sym (values_seam s.done s.rest) ∙ ((λ i. slice_get (values_of (sym s.are i)) (s.count i)) ∙ at)

      go : (l : List (K × V)) → s.rest ≡ l → (k : K) × ((rest : List (K × V)) × Left ((k, v) ∷ rest))
      go [] none = absurd (none_there 0 v (ap (λ l. slice_get (values_of l) 0) (sym none) ∙ here))
      go (e ∷ es) some = search (std_rules, some_is, here)

  pub value_written : (old now new : List (K × V)) (place : ℕ) (v w : V) → slice_get (values_of now) place ≡ Some v → ((k : K) (rest : List (K × V)) → Left ((k, v) ∷ rest) → R (k, v) (k, w))
      → new ≡ set_value_at now place w → AreWrittenSoFar R Left old now place → AreWrittenSoFar R Left old new (place + 1)
  value_written old now new place v w at r is s = go s.rest refl
    where
      here : slice_get (values_of s.rest) 0 ≡ Some v
      here = sym (values_seam s.done s.rest) ∙ ((λ i. slice_get (values_of (sym s.are i)) (s.count i)) ∙ at)

      go : (l : List (K × V)) → s.rest ≡ l → AreWrittenSoFar R Left old new (place + 1)
      go [] none = absurd (none_there 0 v (ap (λ l. slice_get (values_of l) 0) (sym none) ∙ here))
      go (e ∷ es) some =
          let same : e.1 ≡ v = some_is e.1 v (ap (λ l. slice_get (values_of l) 0) (sym some) ∙ here) in
          let rest : s.rest ≡ (e.0, v) ∷ es = some ∙ ap (λ x. (e.0, x) ∷ es) same in
          let left : Left ((e.0, v) ∷ es) = subst Left rest s.left in
          written R Left old now new place s (e.0, v) (e.0, w) es rest (r e.0 es left) (tail (e.0, v) es left)
          (is ∙ ((λ i. set_value_at ((s.are ∙ ap (λ l. s.done ++ l) rest) i) (sym s.count i) w) ∙ set_middle s.done es e.0 v w))
