-- One item behind the items that a loop has appended.
use Rattle.std.proofs.Common.{rules as std_rules, ◌≡◌, ℕ, ◌+◌, ◌<◌, Bool, false, List, [], ◌∷◌, ◌++◌, length, get_or, take, map, Result, Ok, Err, sym, ap, subst, ◌∙◌, arith, append_assoc, add-one}
use Rattle.std.proofs.Math.Seq.{take-suc}
use Rattle.std.proofs.{Math.ListN.get_or-map, lemmas.List.append-nil, lemmas.List.Concat.flat_map-append, lemmas.List.length-map, lemmas.List.Folds.list_all_at as list_all-fails}
use Rattle.std.specs.List.{flat_map, list_all}
use Rattle.wit_model.specs.declared.error.Error.{Error}
use Rattle.comp_bytes.specs.{Form.Spellings, Form.Sequence, Appending.Appended, Appending.Stopped, Appending.Appends}
use Rattle.comp_bytes.proofs.{HeldLaws.sequence_push, Appends.stopped_after, Appends.refused, BuiltLaws.sequence_append as Sequence-append}

module _ {A : Type 0} (form : A → Spellings) (bytes : A → List ℕ) where
  pub one_more : (xs : List A) (y : A) (old now new : List ℕ) → Appended (Sequence form xs) (flat_map bytes xs) old now → Appended (form y) (bytes y) now new
      → Appended (Sequence form (xs ++ y ∷ [])) (flat_map bytes (xs ++ y ∷ [])) old new
  one_more xs y old now new a b = search (std_rules, flat_map-append, append-nil, append_assoc, sequence_push)

  -- the item at the index of the loop
  pub next : (xs : List A) (i : ℕ) (d : A) (old now new : List ℕ) → i < length xs → Appended (Sequence form (take i xs)) (flat_map bytes (take i xs)) old now
      → Appended (form (get_or xs i d)) (bytes (get_or xs i d)) now new → Appended (Sequence form (take (i + 1) xs)) (flat_map bytes (take (i + 1) xs)) old new
  next xs i d old now new lt a b =
      let e : take (i + 1) xs ≡ take i xs ++ get_or xs i d ∷ [] = rw add-one (take-suc xs i d lt) in
      subst (λ (ys : List A). Appended (Sequence form ys) (flat_map bytes ys) old new) (sym e) (one_more (take i xs) (get_or xs i d) old now new a b)

  -- the same, where the items are seen as forms
  pub next_of : {S : Type 0} (view : S → A) (xs : List S) (i : ℕ) (d : S) (old now new : List ℕ) → i < length xs
      → Appended (Sequence form (take i (map view xs))) (flat_map bytes (take i (map view xs))) old now → Appended (form (view (get_or xs i d))) (bytes (view (get_or xs i d))) now new
      → Appended (Sequence form (take (i + 1) (map view xs))) (flat_map bytes (take (i + 1) (map view xs))) old new
  next_of view xs i d old now new lt a b =
      let within : i < length (map view xs) = omega (arith, length-map xs view) in
      let e : get_or (map view xs) i (view d) ≡ view (get_or xs i d) = get_or-map view xs i d in
      next (map view xs) i (view d) old now new within a (subst (λ (y : A). Appended (form y) (bytes y) now new) (sym e) b)

-- a test on all fails where it fails at one

pub stopped_at : {S A : Type 0} (form : A → Spellings) (bytes : A → List ℕ) (test : A → Bool) (view : S → A) (xs : List S) (i : ℕ) (d : S) (old now new : List ℕ) (e : Error) → i < length xs
    → Appended (Sequence form (take i (map view xs))) (flat_map bytes (take i (map view xs))) old now → Stopped (test (view (get_or xs i d))) now new e
    → Stopped (list_all test (map view xs)) old new e
stopped_at form bytes test view xs i d old now new e lt a s =
    let within : i < length (map view xs) = omega (arith, length-map xs view) in
    let is : get_or (map view xs) i (view d) ≡ view (get_or xs i d) = get_or-map view xs i d in
    stopped_after (test (view (get_or xs i d))) (list_all test (map view xs)) (Sequence form (take i (map view xs))) (flat_map bytes (take i (map view xs))) old now new e a s
    (λ fails. list_all-fails test (map view xs) i (view d) within (ap test is ∙ fails))

-- ---- sequences behind sequences

module _ {A : Type 0} (form : A → Spellings) (bytes : A → List ℕ) where
  pub both : (xs ys : List A) (old mid new : List ℕ) → Appended (Sequence form xs) (flat_map bytes xs) old mid → Appended (Sequence form ys) (flat_map bytes ys) mid new
      → Appended (Sequence form (xs ++ ys)) (flat_map bytes (xs ++ ys)) old new
  both xs ys old mid new a b = search (std_rules, flat_map-append, append_assoc, Sequence-append)

module _ {A X : Type 0} (form : A → Spellings) (bytes : A → List ℕ) where
  -- one item is a sequence
  pub alone : (x : A) (fits : Bool) (old new : List ℕ) (r : Result X Error) → Appends (form x) (bytes x) fits old new r → Appends (Sequence form (x ∷ [])) (flat_map bytes (x ∷ [])) fits old new r
  alone x fits old new y a = search std_rules

  pub behind : (xs ys : List A) (part whole : Bool) (old mid new : List ℕ) (r : Result X Error) → Appended (Sequence form xs) (flat_map bytes xs) old mid
      → Appends (Sequence form ys) (flat_map bytes ys) part mid new r → (part ≡ false → whole ≡ false) → Appends (Sequence form (xs ++ ys)) (flat_map bytes (xs ++ ys)) whole old new r
  behind xs ys part whole old mid new (Ok y) a b falls = record { ok = both form bytes xs ys old mid new a b.ok; err = tt }
  behind xs ys part whole old mid new (Err e) a b falls = refused _ _ _ _ _ _ (stopped_after part whole (Sequence form xs) (flat_map bytes xs) old mid new e a b.err falls)
