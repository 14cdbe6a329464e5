-- Needs without a cycle.
use Rattle.std.specs.Prelude.{ℕ, ◌<◌, ◌≤◌, List, length}
use Rattle.text_plain.specs.Orders.{Needs}

-- What is needed lies lower: each number has a rank, at most the count of all, and what it needs has a smaller one.
pub record AreGrounded (links : List (List ℕ)) : Type 0 where
  pub rank : ℕ → ℕ
  pub small : (n : ℕ) → rank n ≤ length links
  pub falls : (n m : ℕ) → Needs links n m → rank m < rank n
