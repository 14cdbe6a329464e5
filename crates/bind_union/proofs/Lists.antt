-- What follows from false, and numbers by cases and by the smaller ones.
use Rattle.std.proofs.Common.{◌≡◌, refl, true, false, ℕ, zero, suc, ◌<◌, ◌==◌, arith}
use Rattle.base_lemmas.proofs.Numbers.{equal}

pub no_true : {A : Type 0} → false ≡ true → A
no_true e = let wrong : ⊥ = cc in absurd wrong

-- ---- numbers

-- where one number is another, and where it isn't
pub by_number : {P : Type 0} (m n : ℕ) → (m ≡ n → P) → ((m == n) ≡ false → P) → P
by_number {P = P} m n same apart = elim (m == n) as (λ b. (m == n) ≡ b → P) [ true ↦ λ e. same (equal m n e) | false ↦ apart ] refl

-- what holds of a number where it does of all smaller ones holds of each
pub by_less : (P : ℕ → Type 0) → ((n : ℕ) → ((m : ℕ) → m < n → P m) → P n) → (n : ℕ) → P n
by_less P step n = below (suc n) n (omega arith)
  where
    below : (fuel k : ℕ) → k < fuel → P k
    below zero k h = absurd (omega (arith, h))
    below (suc fuel) k h = step k (λ m low. below fuel m (omega (arith, low, h)))
