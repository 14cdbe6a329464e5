-- Uses of interfaces, one after the other (WIT.md, "Interfaces: use").
use Rattle.std.specs.Prelude.{◌≡◌, ◌<◌, ℕ, zero, suc, true, List}
use Rattle.wit_model.specs.declared.model.Resolve.{Resolve}
use Rattle.wit_model.specs.{Uses.has, Uses.direct_deps, Uses.reached, Valid.IsValid}

-- so many uses lead from the first interface to the second
abbrev pub Chain : Resolve → ℕ → ℕ → ℕ → Type 0
Chain r zero n m = n ≡ m
Chain r (suc k) n m = (o : ℕ) × (has (direct_deps r n) o ≡ true) × Chain r k o m

-- An interface of a valid `Resolve` uses smaller numbers alone.
abbrev pub UsesFall : Type 0
UsesFall = (r : Resolve) → IsValid r → (n m : ℕ) → has (direct_deps r n) m ≡ true → m < n

-- In a valid `Resolve`, what uses lead to from some interfaces is reached from these.
abbrev pub ChainsReach : Type 0
ChainsReach = (r : Resolve) → IsValid r → (ns : List ℕ) (n k m : ℕ) → has ns n ≡ true → Chain r k n m → has (reached r ns) m ≡ true

-- What is reached is led to from one of these, in any `Resolve`.
abbrev pub ReachedByChains : Type 0
ReachedByChains = (r : Resolve) (ns : List ℕ) (m : ℕ) → has (reached r ns) m ≡ true → (n : ℕ) × (k : ℕ) × (has ns n ≡ true) × Chain r k n m
