-- A text that stands in another one has there what it has.
use Rattle.std.proofs.Common.{◌≡◌, refl, sym, ap, ap₂, ◌∙◌, inl, inr, ℕ, zero, suc, min, ◌+◌, ◌-◌, ◌<◌, ◌≤◌, arith, [], ◌∷◌, length, take, drop}
use Rattle.std.proofs.Math.ListN.{drop_of_length-le}
use Rattle.std.proofs.lemmas.{Bool.cases_lt as low_or_high, List.drop-drop, List.drop-take, List.length-take, List.take-take}
use Rattle.wit_model.specs.Text.{Text}

taken_again : (m n : ℕ) (l : Text) → n ≤ m → take m (take n l) ≡ take n l
taken_again zero zero l h = refl
taken_again zero (suc n) l h = absurd (omega (arith, h))
taken_again (suc m) zero l h = refl
taken_again (suc m) (suc n) [] h = refl
taken_again (suc m) (suc n) (x ∷ l) h = ap (λ r. x ∷ r) (taken_again m n l (omega (arith, h)))

none_of : (k : ℕ) (l : Text) → l ≡ [] → take k l ≡ []
none_of zero l e = refl
none_of (suc k) l e = ap (take (suc k)) e

-- a part of the beginning of a text, by places up to its end
in_front : (n start end : ℕ) (l : Text) → take (min end n - min start n) (drop (min start n) l) ≡ take (end - start) (drop start (take n l))
in_front n start end l = elim (low_or_high n start) [ inl behind ↦ past behind | inr within ↦ here within ]
  where
    past : n < start → take (min end n - min start n) (drop (min start n) l) ≡ take (end - start) (drop start (take n l))
    past h =
        let zero_left : min end n - min start n ≡ 0 = omega (arith, h) in
        let short : length (take n l) ≤ start = omega (arith, h, length-take n l) in
        ap (λ k. take k (drop (min start n) l)) zero_left ∙ sym (none_of (end - start) (drop start (take n l)) (drop_of_length-le (take n l) short))

    here : start ≤ n → take (min end n - min start n) (drop (min start n) l) ≡ take (end - start) (drop start (take n l))
    here h =
        let from : min start n ≡ start = omega (arith, h) in
        let sum : n ≡ start + (n - start) = omega (arith, h) in
        let right : drop start (take n l) ≡ take (n - start) (drop start l) = ap (λ k. drop start (take k l)) sum ∙ drop-take start (n - start) l in
        ap₂ (λ k m. take (min end n - k) (drop m l)) from from ∙ (elim (low_or_high (n - start) (end - start)) [
          | inl long ↦ (let count : min end n - start ≡ n - start = omega (arith, long, h) in
              ap (λ k. take k (drop start l)) count ∙ sym (taken_again (end - start) (n - start) (drop start l) (omega (arith, long))))
          | inr low ↦ (let count : min end n - start ≡ end - start = omega (arith, low, h) in
              ap (λ k. take k (drop start l)) count ∙ sym (take-take (end - start) (n - start) (drop start l) low))
        ] ∙ ap (take (end - start)) (sym right))

module _ (from to : Text) (base : ℕ) (stands : take (length from) (drop base to) ≡ from) where
  -- what a span has, by places up to its end
  pub cuts_same : (start end s e : ℕ) → s ≡ min start (length from) → e ≡ min end (length from)
      → take ((base + e) - (base + s)) (drop (base + s) to) ≡ take (end - start) (drop start from)
  cuts_same start end s e begins ends =
      let n = length from in
      let count : (base + e) - (base + s) ≡ min end n - min start n = omega (arith, begins, ends) in
      ap₂ take count (ap (λ k. drop (base + k) to) begins ∙ sym (drop-drop (min start n) base to))
      ∙ (in_front n start end (drop base to) ∙ ap (λ l. take (end - start) (drop start l)) stands)
