-- Numbers fall along uses: so what is listed with an interface, and the steps that it takes, are the same for every bound above its number.
use Rattle.std.proofs.Common.{rules as std_rules, ◌≡◌, ◌⊎◌, inl, inr, refl, sym, ap, ◌∙◌, ℕ, zero, suc, ◌+◌, ◌<◌, ◌≤◌, arith, Bool, true, false, ◌==◌, List, [], ◌∷◌}
use Rattle.std.proofs.lemmas.{Bool.eqb-true, Bool.eq-eqb, Bool.or_left, Bool.or_right, List.Folds.list_any-append}
use Rattle.std.specs.Prelude.{if◌then◌else◌, fold}
use Rattle.wit_model.specs.declared.model.Resolve.{Resolve}
use Rattle.wit_model.specs.{Uses.has, Uses.direct_deps, Valid.IsValid}
use Rattle.wit_model.proofs.Chains.{uses_fall}
use Rattle.encode_reach.specs.{Reach.add, Reach.listed_with, Walk.sum_along, Walk.steps_for}

-- ---- functions that agree on each of these

fold-same : (f g : List ℕ → ℕ → List ℕ) (ns : List ℕ) → ((n : ℕ) → has ns n ≡ true → (l : List ℕ) → f l n ≡ g l n) → (l : List ℕ) → fold f l ns ≡ fold g l ns
fold-same f g [] same l = refl
fold-same f g (n ∷ ns) same l = ap (λ k. fold f k ns) (same n (or_left (n == n) (has ns n) (eq-eqb n n refl)) l) ∙ fold-same f g ns (λ m h. same m (or_right (n == m) (has ns m) h)) (g l n)

sum-same : (f g : List ℕ → ℕ → List ℕ) (c d : List ℕ → ℕ → ℕ) (ns : List ℕ) → ((n : ℕ) → has ns n ≡ true → (l : List ℕ) → f l n ≡ g l n) → ((n : ℕ) → has ns n ≡ true → (l : List ℕ) → c l n ≡ d l n)
    → (l : List ℕ) → sum_along f c l ns ≡ sum_along g d l ns
sum-same f g c d [] same costs l = refl
sum-same f g c d (n ∷ ns) same costs l =
    let there = or_left (n == n) (has ns n) (eq-eqb n n refl) in
    ap (λ k. k + sum_along f c (f l n) ns) (costs n there l) ∙ (ap (λ w. d l n + sum_along f c w ns) (same n there l)
    ∙ ap (λ k. d l n + k) (sum-same f g c d ns (λ m h. same m (or_right (n == m) (has ns m) h)) (λ m h. costs m (or_right (n == m) (has ns m) h)) (g l n)))

module _ (r : Resolve) (v : IsValid r) where
  -- ---- bounds above the number

  enough : (k j n : ℕ) → n < k → n < j → (l : List ℕ) → listed_with r k l n ≡ listed_with r j l n
  unfolding listed_with
  enough zero j n a b l = absurd (omega (arith, a))
  enough (suc k) zero n a b l = absurd (omega (arith, b))
  enough (suc k) (suc j) n a b l = ap (λ ns. if has l n then l else add ns n)
      (fold-same (listed_with r k) (listed_with r j) (direct_deps r n) (λ m h w. let f = uses_fall r v n m h in enough k j m (omega (arith, a, f)) (omega (arith, b, f)) w) l)

  enough-steps : (k j n : ℕ) → n < k → n < j → (l : List ℕ) → steps_for r k l n ≡ steps_for r j l n
  unfolding steps_for
  enough-steps zero j n a b l = absurd (omega (arith, a))
  enough-steps (suc k) zero n a b l = absurd (omega (arith, b))
  enough-steps (suc k) (suc j) n a b l = ap (λ c. if has l n then 1 else suc (suc c))
      (sum-same (listed_with r k) (listed_with r j) (steps_for r k) (steps_for r j) (direct_deps r n)
      (λ m h w. let f = uses_fall r v n m h in enough k j m (omega (arith, a, f)) (omega (arith, b, f)) w)
      (λ m h w. let f = uses_fall r v n m h in enough-steps k j m (omega (arith, a, f)) (omega (arith, b, f)) w) l)

  -- the uses of an interface, each with a bound of its own
  pub each-bound : (n : ℕ) (l : List ℕ) → fold (λ w m. listed_with r (suc m) w m) l (direct_deps r n) ≡ fold (listed_with r n) l (direct_deps r n)
  each-bound n l = fold-same (λ w m. listed_with r (suc m) w m) (listed_with r n) (direct_deps r n) (λ m h w. let f = uses_fall r v n m h in enough (suc m) n m (omega arith) f w) l

  pub each-bound-steps : (n : ℕ) (l : List ℕ)
      → sum_along (λ w m. listed_with r (suc m) w m) (λ w m. steps_for r (suc m) w m) l (direct_deps r n) ≡ sum_along (listed_with r n) (steps_for r n) l (direct_deps r n)
  each-bound-steps n l = search (std_rules, sum-same, uses_fall, enough, enough-steps)

  -- ---- what comes to be listed has no greater number

  has-added : (ns : List ℕ) (n q : ℕ) → has (add ns n) q ≡ true → (has ns q ≡ true) ⊎ (q ≡ n)
  has-added ns n q h = search (std_rules, eqb-true, list_any-append)

  abbrev Lower : ℕ → Type 0
  Lower k = (n : ℕ) (l : List ℕ) (q : ℕ) → has (listed_with r k l n) q ≡ true → (has l q ≡ true) ⊎ (q ≤ n)

  lower-all : (k n : ℕ) → Lower k → (ns : List ℕ) → ((m : ℕ) → has ns m ≡ true → m < n) → (l : List ℕ) (q : ℕ) → has (fold (listed_with r k) l ns) q ≡ true → (has l q ≡ true) ⊎ (q < n)
  lower-all k n low [] less l q h = inl h
  lower-all k n low (m ∷ ns) less l q h = elim (lower-all k n low ns (λ j g. less j (or_right (m == j) (has ns j) g)) (listed_with r k l m) q h) [ inr e ↦ inr e | inl e ↦ by (low m l q e) ]
    where
      first : m < n
      first = less m (or_left (m == m) (has ns m) (eq-eqb m m refl))

      by : ((has l q ≡ true) ⊎ (q ≤ m)) → (has l q ≡ true) ⊎ (q < n)
      by (inl e) = inl e
      by (inr e) = inr (omega (arith, e, first))

  lower : (k : ℕ) → Lower k
  unfolding listed_with
  lower zero n l q h = inl h
  lower (suc k) n l q h = by (lower k) (has l n) refl
    where
      behind : Lower k → ((has (fold (listed_with r k) l (direct_deps r n)) q ≡ true) ⊎ (q ≡ n)) → (has l q ≡ true) ⊎ (q ≤ n)
      behind low (inr e) = inr (omega (arith, e))
      behind low (inl e) = elim (lower-all k n low (direct_deps r n) (uses_fall r v n) l q e) [ inl f ↦ inl f | inr f ↦ inr (omega (arith, f)) ]

      by : Lower k → (b : Bool) → has l n ≡ b → (has l q ≡ true) ⊎ (q ≤ n)
      by low true e = inl (sym (ap (λ b. has (if b then l else add (fold (listed_with r k) l (direct_deps r n)) n) q) e) ∙ h)
      by low false e = behind low (has-added (fold (listed_with r k) l (direct_deps r n)) n q (sym (ap (λ b. has (if b then l else add (fold (listed_with r k) l (direct_deps r n)) n) q) e) ∙ h))

  -- so an interface isn't listed with what it uses
  pub not-among-uses : (k n : ℕ) (l : List ℕ) → has l n ≡ false → has (fold (listed_with r k) l (direct_deps r n)) n ≡ false
  not-among-uses k n l fresh = by (has (fold (listed_with r k) l (direct_deps r n)) n) refl
    where
      by : (b : Bool) → has (fold (listed_with r k) l (direct_deps r n)) n ≡ b → b ≡ false
      by false e = refl
      by true e = elim (lower-all k n (lower k) (direct_deps r n) (uses_fall r v n) l n e) [ inl f ↦ sym f ∙ fresh | inr f ↦ absurd (omega (arith, f)) ]
