-- Items that are read one behind the other, as a loop reads them: those in front have been read, so many are still to be read.
use Rattle.std.proofs.Common.{rules as std_rules, ◌≡◌, sym, ap, ◌∙◌, ℕ, suc, ◌+◌, ◌-◌, ◌<◌, ◌≤◌, List, [], ◌∷◌, ◌++◌, map, Option, Some, None, append_assoc}
use Rattle.std.proofs.lemmas.List.{map-append}
use Rattle.comp_bytes.specs.Reading.{Reader, ◌>>=◌, sequence_at}
use Rattle.base_lemmas.proofs.Numbers.{less}

-- what was found, with these in front
abbrev pub with_front : {A : Type 0} → List A → Option (List A × List ℕ) → Option (List A × List ℕ)
with_front front found = found >>= λ x. Some (front ++ x.0, x.1)

-- at first there are none in front
pub with_none : {A : Type 0} (found : Option (List A × List ℕ)) → with_front [] found ≡ found
with_none x = search std_rules

module _ {A : Type 0} (reader : Reader A) where
  further : (front : List A) (x : A) (found : Option (List A × List ℕ)) → with_front front (found >>= λ xs. Some (x ∷ xs.0, xs.1)) ≡ with_front (front ++ x ∷ []) found
  further front x y = search (std_rules, append_assoc)

  step : (k : ℕ) (bytes : List ℕ) (x : A) (rest : List ℕ) → reader bytes ≡ Some (x, rest) → sequence_at reader (suc k) bytes ≡ (sequence_at reader k rest >>= λ xs. Some (x ∷ xs.0, xs.1))
  unfolding sequence_at
  step k bytes x rest e = ap (λ o. o >>= λ y. sequence_at reader k y.1 >>= λ ys. Some (y.0 ∷ ys.0, ys.1)) e

  stop : (k : ℕ) (bytes : List ℕ) → reader bytes ≡ None → sequence_at reader (suc k) bytes ≡ None
  unfolding sequence_at
  stop k bytes e = ap (λ o. o >>= λ y. sequence_at reader k y.1 >>= λ ys. Some (y.0 ∷ ys.0, ys.1)) e

  -- The items so far, seen by raw, stand in front of what is still to be read.
  module _ {X : Type 0} (raw : X → A) (items : List X) (n i : ℕ) (bytes rest : List ℕ)
      (kept : with_front (map raw items) (sequence_at reader (n - i) rest) ≡ sequence_at reader n bytes) (more : i < n) where
    pub one_more : (x : X) (after : List ℕ) (new : List X) → reader rest ≡ Some (raw x, after) → new ≡ items ++ x ∷ []
        → with_front (map raw new) (sequence_at reader (n - (i + 1)) after) ≡ sequence_at reader n bytes
    one_more x after new e grown = ap (λ xs. with_front xs (sequence_at reader (n - (i + 1)) after)) (ap (map raw) grown ∙ map-append raw items (x ∷ []))
        ∙ (sym (further (map raw items) (raw x) (sequence_at reader (n - (i + 1)) after))
        ∙ (ap (with_front (map raw items)) (sym (ap (λ k. sequence_at reader k rest) (less n i more) ∙ step (n - (i + 1)) rest (raw x) after e)) ∙ kept))

    -- where the next item isn't there, there are no such items
    pub none_further : reader rest ≡ None → sequence_at reader n bytes ≡ None
    none_further e = sym kept ∙ ap (with_front (map raw items)) (ap (λ k. sequence_at reader k rest) (less n i more) ∙ stop (n - (i + 1)) rest e)

  -- at the end these are all
  pub all_items : (front : List A) (n i : ℕ) (bytes rest : List ℕ) → with_front front (sequence_at reader (n - i) rest) ≡ sequence_at reader n bytes → n ≤ i
      → sequence_at reader n bytes ≡ Some (front, rest)
  unfolding sequence_at
  all_items front n i bytes rest kept done = search std_rules
