-- Which types of a table are used: those that are marked, and the parts of those that are used (Binary.md, "Type Definitions").
use Rattle.std.specs.Prelude.{◌≡◌, ◌<◌, ◌+◌, ℕ, Bool, true, false, List, map, Some, slice_get, slice_index_or}
use Rattle.std.specs.{Borrow.Bor, List.AllByRecursion, List.Contains}

abbrev pub is_marked : List Bool → ℕ → Bool
is_marked marks n = slice_index_or marks n false

-- the parts of each type, without where they lie in memory
abbrev pub parts_of : List (Bor (List ℕ)) → List (List ℕ)
parts_of ps = map (λ p. p.now) ps

-- The parts of each type are primitives, or stand before it.
abbrev pub PartsFall : List (List ℕ) → Type 0
PartsFall parts = (n : ℕ) (ks : List ℕ) → slice_get parts n ≡ Some ks → AllByRecursion (λ k. k < 14 + n) ks

-- The type of this number is marked to begin with, or a part of one that is used.
pub data IsUsed (parts : List (List ℕ)) (roots : List Bool) : ℕ → Type 0 where
  marked : (n : ℕ) → is_marked roots n ≡ true → IsUsed parts roots n
  part : (m n : ℕ) (ks : List ℕ) → IsUsed parts roots m → slice_get parts m ≡ Some ks → Contains ks (14 + n) → IsUsed parts roots n
