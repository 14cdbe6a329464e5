-- An order has no cycle.
use Rattle.std.proofs.Common.{◌≡◌, ◌==◌, refl, sym, ap, subst, ◌∙◌, ◌<◌, ◌≤◌, ◌||◌, ℕ, suc, zero, Bool, true, false, List, [], ◌∷◌, Some, Contains, slice_get, unwrap_or, length, arith, if◌then◌else◌, true≢false, ◌⊎◌, inl, inr}
use Rattle.std.proofs.lemmas.Bool.{eqb-true, eqb-false}
use Rattle.std.proofs.lemmas.Map.Steps.{length-le_from_distinct_below}
use Rattle.std.proofs.lemmas.Option.{slice_get-get_or, slice_get_past}
use Rattle.std.proofs.lemmas.Bool.{cases_lt}
use Rattle.std.specs.List.{list_any, IsDistinct, AllByRecursion}
use Rattle.text_names.specs.Orders.{IsOrder}
use Rattle.text_shown.proofs.Shuffles.{apart_rest}
use Rattle.wit_text.specs.Grounds.{AreGrounded}
use Rattle.wit_text.proofs.Falling.{contains_got}
use Rattle.text_plain.specs.Orders.{AreApart, Needs, needed}

-- the first place of a number, or the length
abbrev place_in : List ℕ → ℕ → ℕ
place_in [] n = 0
place_in (x ∷ xs) n = if n == x then 0 else suc (place_in xs n)

place_small : (xs : List ℕ) (n : ℕ) → place_in xs n ≤ length xs
place_small [] n = omega arith
place_small (x ∷ xs) n = by (n == x) (place_small xs n)
  where
    by : (b : Bool) → place_in xs n ≤ length xs → (if b then 0 else suc (place_in xs n)) ≤ length (x ∷ xs)
    by true rest = omega arith
    by false rest = omega arith

place_first : (xs : List ℕ) (p n : ℕ) → slice_get xs p ≡ Some n → place_in xs n ≤ p
place_first [] p n h = cc
place_first (x ∷ xs) zero n h = by (n == x) refl
  where
    by : (b : Bool) → (n == x) ≡ b → (if b then 0 else suc (place_in xs n)) ≤ 0
    by true e = omega arith
    by false e = let same : x ≡ n = cc in absurd (eqb-false n x e (sym same))
place_first (x ∷ xs) (suc p) n h = by (n == x) (place_first xs p n h)
  where
    by : (b : Bool) → place_in xs n ≤ p → (if b then 0 else suc (place_in xs n)) ≤ suc p
    by true rest = omega arith
    by false rest = omega arith

place_is : (xs : List ℕ) (p n : ℕ) → slice_get xs p ≡ Some n → slice_get xs (place_in xs n) ≡ Some n
place_is [] p n h = cc
place_is (x ∷ xs) zero n h = by (n == x) refl
  where
    by : (b : Bool) → (n == x) ≡ b → slice_get (x ∷ xs) (if b then 0 else suc (place_in xs n)) ≡ Some n
    by true e = h
    by false e = let same : x ≡ n = cc in absurd (eqb-false n x e (sym same))
place_is (x ∷ xs) (suc p) n h = by (n == x) refl (place_is xs p n h)
  where
    by : (b : Bool) → (n == x) ≡ b → slice_get xs (place_in xs n) ≡ Some n → slice_get (x ∷ xs) (if b then 0 else suc (place_in xs n)) ≡ Some n
    by true e rest = ap Some (sym (eqb-true n x e))
    by false e rest = rest

-- ---- those that stand apart are no more than there are numbers

found_at : (x : ℕ) (xs : List ℕ) → list_any (λ y. x == y) xs ≡ true → (i : ℕ) × (slice_get xs i ≡ Some x)
found_at x [] h = absurd (true≢false (sym h))
found_at x (y ∷ ys) h = by (x == y) refl (found_at x ys)
  where
    by : (b : Bool) → (x == y) ≡ b → (list_any (λ z. x == z) ys ≡ true → (i : ℕ) × (slice_get ys i ≡ Some x)) → (i : ℕ) × (slice_get (y ∷ ys) i ≡ Some x)
    by true e rest = (0, ap Some (sym (eqb-true x y e)))
    by false e rest = let at = rest (sym (ap (λ b. b || list_any (λ z. x == z) ys) e) ∙ h) in (suc at.0, at.1)

none_same : (x : ℕ) (xs : List ℕ) → ((i : ℕ) → slice_get xs i ≡ Some x → ⊥) → AllByRecursion (λ y. (x == y) ≡ false) xs
none_same x [] never = tt
none_same x (y ∷ ys) never = (by (x == y) refl, none_same x ys (λ i h. never (suc i) h))
  where
    by : (b : Bool) → (x == y) ≡ b → (x == y) ≡ false
    by true e = absurd (never 0 (ap Some (sym (eqb-true x y e))))
    by false e = e

suc-not : (i : ℕ) → 0 ≡ suc i → ⊥
suc-not i h = omega arith

distinct : (xs : List ℕ) → AreApart xs → IsDistinct ◌==◌ xs
unfolding IsDistinct
distinct [] apart = tt
distinct (x ∷ xs) apart =
    (none_same x xs (λ i h. suc-not i (apart 0 (suc i) x refl h)), distinct xs (apart_rest x xs apart))

order_small : (links : List (List ℕ)) (order : List ℕ) → IsOrder links order → length order ≤ length links
order_small links order o =
    length-le_from_distinct_below order (length links) (distinct order o.once)
    (λ q h. let at = found_at q order h in o.within q (contains_got order at.0 q at.1))

in_range : (links : List (List ℕ)) (n m : ℕ) → Needs links n m → n < length links
in_range links n m h = by (cases_lt n (length links))
  where
    by : (n < length links) ⊎ (length links ≤ n) → n < length links
    by (inl low) = low
    by (inr high) =
        let none : needed links n ≡ [] = ap (λ o. unwrap_or o []) (slice_get_past links n high) in
        let long : h.0 < 0 = subst (λ (xs : List ℕ). h.0 < length xs) none h.1 in
        absurd (omega arith)

got : (xs : List ℕ) (n : ℕ) (h : Contains xs n) → slice_get xs h.0 ≡ Some n
got xs n h = slice_get-get_or xs h.0 n h.1 ∙ ap Some h.2

-- each has its place as its rank
pub grounded : (links : List (List ℕ)) (order : List ℕ) → IsOrder links order → AreGrounded links
grounded links order o = record {
  rank = place_in order;
  small = λ n. let a = place_small order n in let b = order_small links order o in omega arith;
  falls = λ n m h.
      let there = o.all n (in_range links n m h) in
      let before = o.behind (place_in order n) n m (place_is order there.0 n (got order n there)) h in
      let first = place_first order before.place m before.stands in
      let lower = before.before in
      omega arith;
}
