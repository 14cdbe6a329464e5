-- The first of each place.
use Rattle.std.proofs.Common.{rules as std_rules, ◌≡◌, refl, sym, ap, ◌∙◌, ℕ, zero, suc, ◌+◌, ◌<◌, arith, Bool, true, false, not, ◌&&◌, ◌||◌, ◌==◌, cond, List, [], ◌∷◌, ◌++◌, length, map, take, get_or, Option, Some, None, option_map, option_and_then, slice_get, slice_set}
use Rattle.std.proofs.lemmas.{Bool.eqb-true, Bool.Decides.nat_tests, List.take_more, List.length-take-le, List.get_or-set_same, List.get_or-set_other}
use Rattle.std.specs.List.{AllByRecursion, find}
use Rattle.plan_meaning.specs.NumberedViews.{NumberedSight}
use Rattle.plan_parts.specs.declared.views.Sighted.{Sighted}
use Rattle.plan_parts.specs.Views.{earlier_of, first_index, in_numbers, passes, sighted, TellsFirst}

earlier_none : (o : Option ℕ) → earlier_of o None ≡ o
earlier_none x = search std_rules

-- ---- one more

index_more : {A : Type 0} (test : A → Bool) (xs : List A) (y : A) → first_index test (xs ++ y ∷ []) ≡ earlier_of (first_index test xs) (cond (test y) (Some (length xs)) None)
index_more test [] y = refl
index_more test (x ∷ xs) y = search (std_rules, index_more test xs y)

-- what passes, where the view counts or not
abbrev pub counts : Bool → Bool → Bool
counts wholes whole = whole || not wholes

pub counts_whole : (wholes whole : Bool) → whole ≡ true → counts wholes whole ≡ true
counts_whole wholes x e = search std_rules

pub counts_any : (wholes whole : Bool) → wholes ≡ false → counts wholes whole ≡ true
counts_any wholes x e = search std_rules

pub counts_no : (wholes whole : Bool) → whole ≡ false → wholes ≡ true → counts wholes whole ≡ false
counts_no wholes x e f = search std_rules

pub place_fits : (places : ℕ) (xs : List Sighted) (i : ℕ) (d : Sighted) → i < length xs → AllByRecursion (λ (s : Sighted). s.place < places) xs → (get_or xs i d).place < places
place_fits places [] i d h all = absurd (omega (arith, h))
place_fits places (x ∷ xs) zero d h all = all.0
place_fits places (x ∷ xs) (suc i) d h all = place_fits places xs i d (omega (arith, h)) all.1

passes_if : (wholes : Bool) (p : ℕ) (s : Sighted) (b : Bool) → counts wholes s.whole ≡ b → passes wholes p s ≡ ((p == s.place) && b)
passes_if wholes p s b e = search std_rules

module _ (wholes : Bool) (places : ℕ) (xs : List Sighted) (i : ℕ) (s : Sighted) (within : i < length xs) (is : s ≡ get_or xs i s)
    (table : List (Option ℕ)) (before : (p : ℕ) → p < places → get_or table p None ≡ first_index (passes wholes p) (take i xs)) where
  grown : (p : ℕ) → first_index (passes wholes p) (take (i + 1) xs) ≡ earlier_of (first_index (passes wholes p) (take i xs)) (cond (passes wholes p s) (Some i) None)
  grown p = search (std_rules, take_more xs i s within, index_more (passes wholes p) (take i xs) s, length-take-le i xs (omega arith))

  left_out : (p : ℕ) → p < places → passes wholes p s ≡ false → get_or table p None ≡ first_index (passes wholes p) (take (i + 1) xs)
  left_out p few other = search (std_rules, grown, earlier_none)

  -- the view doesn't count
  pub passed_by : counts wholes s.whole ≡ false → (p : ℕ) → p < places → get_or table p None ≡ first_index (passes wholes p) (take (i + 1) xs)
  passed_by out p few = search (std_rules, left_out, passes_if)

  -- the view is noted
  pub noted_now : counts wholes s.whole ≡ true → s.place < length table → (new : List (Option ℕ)) → new ≡ slice_set table s.place (earlier_of (get_or table s.place None) (Some i))
      → (p : ℕ) → p < places → get_or new p None ≡ first_index (passes wholes p) (take (i + 1) xs)
  noted_now counted_in room new set p few = search (std_rules, eqb-true, passes_if, get_or-set_same, grown, nat_tests, get_or-set_other, left_out)

-- ---- what the table tells

find_index : {A : Type 0} (test : A → Bool) (xs : List A) → find test xs ≡ option_and_then (slice_get xs) (first_index test xs)
find_index test [] = refl
find_index test (x ∷ xs) = search (std_rules, find_index test xs)

-- a test of what two lists have in common finds the same number in both
index_of_map : {A C : Type 0} (g : A → C) (test : C → Bool) (xs : List A) → first_index test (map g xs) ≡ first_index (λ x. test (g x)) xs
index_of_map g test [] = refl
index_of_map g test (x ∷ xs) = ap (λ r. cond (test (g x)) (Some zero) (option_map suc r)) (index_of_map g test xs)

abbrev pair_passes : Bool → ℕ → ℕ × Bool → Bool
pair_passes false p x = p == x.0
pair_passes true p x = p == x.0 && x.1

same_index : (wholes : Bool) (p : ℕ) (seen : List NumberedSight) (xs : List Sighted) → map in_numbers seen ≡ map sighted xs
    → first_index (λ s. pair_passes wholes p (in_numbers s)) seen ≡ first_index (λ s. pair_passes wholes p (sighted s)) xs
same_index wholes p seen xs same = search (std_rules, index_of_map in_numbers (pair_passes wholes p) seen, index_of_map sighted (pair_passes wholes p) xs)

pub tells_first : (wholes : Bool) (places : ℕ) (seen : List NumberedSight) (xs : List Sighted) (table : List (Option ℕ)) → map in_numbers seen ≡ map sighted xs
    → ((p : ℕ) → p < places → get_or table p None ≡ first_index (passes wholes p) xs) → TellsFirst wholes places seen table
tells_first true places seen xs table same firsts p few =
    find_index (λ s. pair_passes true p (in_numbers s)) seen ∙ ap (option_and_then (slice_get seen)) (same_index true p seen xs same ∙ sym (firsts p few))
tells_first false places seen xs table same firsts p few =
    find_index (λ s. pair_passes false p (in_numbers s)) seen ∙ ap (option_and_then (slice_get seen)) (same_index false p seen xs same ∙ sym (firsts p few))
