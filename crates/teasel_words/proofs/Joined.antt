-- Values that are joined to a short name.
use Rattle.std.proofs.Common.{◌≡◌, ◌≢◌, refl, sym, ap, ◌∙◌, inl, inr, ℕ, List, [], ◌∷◌, ◌++◌, Some, None, nat_eq}
use Rattle.std.proofs.lemmas.Bool.{cases_Bool, cond-true, cond-false, eqb-true, eq-eqb}
use Rattle.std.proofs.lemmas.Option.{same_Some as same-some}
use Rattle.std.specs.List.{slice_get}
use Rattle.teasel_words.specs.Given.{behind, joined_value}

-- a text that is put together has its beginning
behind-some : (n t : List ℕ) → behind n (n ++ t) ≡ Some t
behind-some [] t = refl
behind-some (c ∷ cs) t = cond-true _ _ _ (eq-eqb c c refl) ∙ behind-some cs t

-- one that isn't hasn't
behind-none : (n s : List ℕ) → ((t : List ℕ) → s ≢ n ++ t) → behind n s ≡ None
behind-none [] s lacks = absurd (lacks s refl)
behind-none (c ∷ cs) [] lacks = refl
behind-none (c ∷ cs) (d ∷ ds) lacks = elim (cases_Bool (nat_eq c d)) [
  | inl y ↦ cond-true _ _ _ y ∙ behind-none cs ds (λ t e. lacks t (λ i. sym (eqb-true c d y) i ∷ e i))
  | inr n ↦ cond-false _ _ _ n
]

-- nothing is joined to what isn't the beginning
pub joined-none : (n s : List ℕ) → ((t : List ℕ) → s ≢ n ++ t) → None ≡ joined_value (behind n s)
joined-none n s lacks = sym (ap joined_value (behind-none n s lacks))

module _ (n s v : List ℕ) (is : s ≡ n ++ v) where
  there : behind n s ≡ Some v
  there = ap (behind n) is ∙ behind-some n v

  -- nor is what is empty
  pub joined-empty : slice_get v 0 ≡ None → None ≡ joined_value (behind n s)
  joined-empty h = sym (ap joined_value there ∙ by v h)
    where
      by : (w : List ℕ) → slice_get w 0 ≡ None → joined_value (Some w) ≡ None
      by [] e = refl
      by (c ∷ cs) e = absurd (let z : ⊥ = cc in z)

  -- nor what a `=` is in front of
  pub joined-equals : (b : ℕ) → slice_get v 0 ≡ Some b → b ≡ 61 → None ≡ joined_value (behind n s)
  joined-equals b h q = sym (ap joined_value there ∙ by v h)
    where
      by : (w : List ℕ) → slice_get w 0 ≡ Some b → joined_value (Some w) ≡ None
      by [] e = absurd (let z : ⊥ = cc in z)
      by (c ∷ cs) e = cond-true _ _ _ (eq-eqb c 61 (same-some c b e ∙ q))

  -- and all else is
  pub joined-some : (b : ℕ) → slice_get v 0 ≡ Some b → (b ≡ 61 → ⊥) → Some v ≡ joined_value (behind n s)
  joined-some b h q = sym (ap joined_value there ∙ by v h)
    where
      by : (w : List ℕ) → slice_get w 0 ≡ Some b → joined_value (Some w) ≡ Some w
      by [] e = absurd (let z : ⊥ = cc in z)
      by (c ∷ cs) e = elim (cases_Bool (nat_eq c 61)) [
        | inl y ↦ absurd (q (sym (same-some c b e) ∙ eqb-true c 61 y))
        | inr n ↦ cond-false _ _ _ n
      ]
