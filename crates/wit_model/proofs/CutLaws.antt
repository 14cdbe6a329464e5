-- A text is cut at the first place of a character.
use Rattle.std.proofs.Common.{rules as std_rules, ◌≡◌, refl, sym, ap, ◌∙◌, ℕ, suc, ◌+◌, ◌<◌, arith, Bool, true, false, cond, eqb, ◌==◌, List, [], ◌∷◌, length, Option, Some, None, option_map, not}
use Rattle.std.specs.{Prelude.MatchOption, Borrow.Bor, List.before_first, List.after_first, List.position_or_len}
use Rattle.wit_model.specs.{Names.cut, Text.Text}

cut_more : (c x : ℕ) (xs : Text) (b : Bool) → (x == c) ≡ b → cut c (x ∷ xs) ≡ cond b (Some ([], xs)) (option_map (λ p. (x ∷ p.0, p.1)) (cut c xs))
unfolding cut
cut_more c x xs b e = ap (λ v. cond v (Some ([], xs)) (option_map (λ p. (x ∷ p.0, p.1)) (cut c xs))) e

place_more : (c x : ℕ) (xs : Text) (b : Bool) → (x == c) ≡ b → position_or_len (λ y. eqb y c) (x ∷ xs) ≡ cond (not b) (1 + position_or_len (λ y. eqb y c) xs) 0
place_more c x xs b e = ap (λ v. cond (not v) (1 + position_or_len (λ y. eqb y c) xs) 0) e

one_more : (k : ℕ) → 1 + k ≡ suc k
one_more k = omega arith

one_behind : (k : ℕ) → 1 + k + 1 ≡ suc (k + 1)
one_behind k = omega arith

before_more : (c x : ℕ) (xs : Text) (b : Bool) → (x == c) ≡ b → before_first (λ y. eqb y c) (x ∷ xs) ≡ cond b [] (x ∷ before_first (λ y. eqb y c) xs)
before_more c x xs z e = search std_rules

after_more : (c x : ℕ) (xs : Text) (b : Bool) → (x == c) ≡ b → after_first (λ y. eqb y c) (x ∷ xs) ≡ cond b xs (after_first (λ y. eqb y c) xs)
after_more c x xs z e = search std_rules

cut_found : (c : ℕ) (xs : Text) → position_or_len (λ y. eqb y c) xs < length xs → cut c xs ≡ Some (before_first (λ y. eqb y c) xs, after_first (λ y. eqb y c) xs)
cut_found c [] h = absurd (omega (arith, h))
cut_found c (x ∷ xs) h = by (x == c) refl (cut_found c xs)
  where
    by : (b : Bool) → (x == c) ≡ b → (position_or_len (λ y. eqb y c) xs < length xs → cut c xs ≡ Some (before_first (λ y. eqb y c) xs, after_first (λ y. eqb y c) xs))
        → cut c (x ∷ xs) ≡ Some (before_first (λ y. eqb y c) (x ∷ xs), after_first (λ y. eqb y c) (x ∷ xs))
    by true e rest = cut_more c x xs true e ∙ (λ i. Some (sym (before_more c x xs true e) i, sym (after_more c x xs true e) i))
    by false e rest =
        let place = place_more c x xs false e in
        cut_more c x xs false e ∙ (ap (option_map (λ p. (x ∷ p.0, p.1))) (rest (omega (arith, h, place))) ∙ (λ i. Some (sym (before_more c x xs false e) i, sym (after_more c x xs false e) i)))

cut_nowhere : (c : ℕ) (xs : Text) → position_or_len (λ y. eqb y c) xs ≡ length xs → cut c xs ≡ None
unfolding cut
cut_nowhere c [] h = refl
cut_nowhere c (x ∷ xs) h = by (x == c) refl (cut_nowhere c xs)
  where
    by : (b : Bool) → (x == c) ≡ b → (position_or_len (λ y. eqb y c) xs ≡ length xs → cut c xs ≡ None) → cut c (x ∷ xs) ≡ None
    by true e rest = let place = place_more c x xs true e in absurd (omega (arith, h, place))
    by false e rest =
        let place = place_more c x xs false e in
        cut_more c x xs false e ∙ ap (option_map (λ p. (x ∷ p.0, p.1))) (rest (omega (arith, h, place)))

-- what splits a text at the first place of a character cuts it
pub split_cuts : (c : ℕ) (text : Text) (r : Option (Bor (List ℕ) × Bor (List ℕ)))
    → MatchOption r (position_or_len (λ b. eqb b c) text ≡ length text) (λ x. (position_or_len (λ b. eqb b c) text < length text) × (x.0.now ≡ before_first (λ b. eqb b c) text)
    × (x.1.now ≡ after_first (λ b. eqb b c) text)) → option_map (λ x. (x.0.now, x.1.now)) r ≡ cut c text
split_cuts c text x h = search (std_rules, cut_nowhere, cut_found)
