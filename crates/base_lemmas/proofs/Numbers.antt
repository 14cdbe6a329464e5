-- Lemmas on natural numbers: order, sums, differences, equality as a boolean.
use Rattle.base_lemmas.proofs.Bools.{both_ways as either_way}
use Rattle.std.proofs.Common.{Bool, T, [], ap, arith, codes, eq-eqb, eqb→eq, false, inl, inr, max, nat_eq, refl, subst, suc, sym, true, zero, ℕ, ◌+◌, ◌-◌, ◌<◌, ◌==◌, ◌∙◌, ◌≡◌, ◌≤◌, ◌⊎◌}
use Rattle.std.proofs.lemmas.{Bool.eqb-true, Bool.Decides.nat_tests}
use Rattle.std.specs.{List.IsDistinct, Str.IsUtf8}
use lib.Utf8.{encode}

pub turned : (a c : ℕ) → (a == c) ≡ (c == a)
turned a c = grind arith

pub same-number : (n : ℕ) → (n == n) ≡ true
same-number n = eq-eqb n n refl

pub equal : (m n : ℕ) → (m == n) ≡ true → m ≡ n
equal m n e = eqb→eq m n (subst T (sym e) tt)

pub nothing_more : (n : ℕ) → 0 + n ≡ n
nothing_more n = omega arith

pub differ : (k n : ℕ) → (k == n) ≡ false → k ≡ n → ⊥
differ k n f e = let wrong : true ≡ false = sym (same-number k) ∙ (ap (λ (x : ℕ). k == x) e ∙ f) in let no : ⊥ = cc in no

pub less : (n i : ℕ) → i < n → n - i ≡ suc (n - (i + 1))
less n i h = omega (arith, h)

pub apart_back : (a b : ℕ) → (a == b) ≡ false → (b == a) ≡ false
apart_back a b none = by (b == a) refl
  where
    by : (c : Bool) → (b == a) ≡ c → (b == a) ≡ false
    by true e = let wrong : true ≡ false = sym (eq-eqb a b (sym (eqb-true b a e))) ∙ none in absurd cc
    by false e = e

pub unequal : (m n : ℕ) → (m ≡ n → ⊥) → (m == n) ≡ false
unequal m n h = go (m == n) refl
  where
    go : (b : Bool) → (m == n) ≡ b → (m == n) ≡ false
    go true e = absurd (h (eqb→eq m n (subst T (sym e) tt)))
    go false e = e

pub none-twice : IsDistinct nat_eq []
unfolding IsDistinct
none-twice = tt

pub utf8-constructor : IsUtf8 (codes "[constructor]r")
unfolding encode
utf8-constructor = (codes "[constructor]r", (refl, refl))

pub utf8-method : IsUtf8 (codes "[method]r.m")
unfolding encode
utf8-method = (codes "[method]r.m", (refl, refl))

pub utf8-a : IsUtf8 (codes "a")
unfolding encode
utf8-a = (codes "a", (refl, refl))

pub utf8-b : IsUtf8 (codes "b")
unfolding encode
utf8-b = (codes "b", (refl, refl))

pub utf8-f : IsUtf8 (codes "f")
unfolding encode
utf8-f = (codes "f", (refl, refl))

pub utf8-h : IsUtf8 (codes "h")
unfolding encode
utf8-h = (codes "h", (refl, refl))

pub utf8-i : IsUtf8 (codes "i")
unfolding encode
utf8-i = (codes "i", (refl, refl))

pub utf8-j : IsUtf8 (codes "j")
unfolding encode
utf8-j = (codes "j", (refl, refl))

pub utf8-k : IsUtf8 (codes "k")
unfolding encode
utf8-k = (codes "k", (refl, refl))

pub utf8-p : IsUtf8 (codes "p")
unfolding encode
utf8-p = (codes "p", (refl, refl))

pub utf8-pkg : IsUtf8 (codes "pkg")
unfolding encode
utf8-pkg = (codes "pkg", (refl, refl))

pub utf8-r : IsUtf8 (codes "r")
unfolding encode
utf8-r = (codes "r", (refl, refl))

pub utf8-s : IsUtf8 (codes "s")
unfolding encode
utf8-s = (codes "s", (refl, refl))

pub utf8-self : IsUtf8 (codes "self")
unfolding encode
utf8-self = (codes "self", (refl, refl))

pub utf8-t : IsUtf8 (codes "t")
unfolding encode
utf8-t = (codes "t", (refl, refl))

pub utf8-w : IsUtf8 (codes "w")
unfolding encode
utf8-w = (codes "w", (refl, refl))

pub utf8-x : IsUtf8 (codes "x")
unfolding encode
utf8-x = (codes "x", (refl, refl))

pub false_true : false ≡ true → ⊥
false_true e = let q : ⊥ = cc in q

pub nat_eq_flip : (a b : ℕ) → nat_eq a b ≡ nat_eq b a
nat_eq_flip a b = either_way (nat_eq a b) (nat_eq b a) (λ e. eq-eqb b a (sym (eqb-true a b e))) (λ e. eq-eqb a b (sym (eqb-true b a e)))

pub max-none : (n : ℕ) → max n 0 ≡ n
max-none n = omega arith

pub no-slot : (n : ℕ) → n + 0 ≡ n
no-slot n = omega arith

pub apart : (n m : ℕ) → n < m → (n == m) ≡ false
apart n m h = grind (arith, nat_tests)

pub same_count : (m n : ℕ) → m ≡ n → (m == n) ≡ true
same_count m n e = eq-eqb m n e

pub same_number : (n : ℕ) → n ≤ n
same_number n = omega arith

pub equal_or_past : (a b : ℕ) → a ≤ b → (a ≡ b) ⊎ (a + 1 ≤ b)
equal_or_past zero zero l = inl refl
equal_or_past zero (suc b) l = inr (omega arith)
equal_or_past (suc a) zero l = absurd (omega (arith, l))
equal_or_past (suc a) (suc b) l = elim (equal_or_past a b (omega (arith, l))) [ inl e ↦ inl (ap suc e) | inr r ↦ inr (omega (arith, r)) ]
