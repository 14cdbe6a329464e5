-- Which types of a table are kept, by marks, and the place of each among them (Component Model WIT.md, "Package Format").
use Rattle.std.specs.Prelude.{◌≡◌, ◌<◌, ◌+◌, ℕ, Bool, true, false, List, [], ◌∷◌, Some, slice_get}
use Rattle.plan_meaning.specs.Renumbering.{IsPart}

-- the numbers that are marked, where the first mark is that of this number
abbrev pub marked_from : ℕ → List Bool → List ℕ
marked_from n [] = []
marked_from n (true ∷ marks) = n ∷ marked_from (n + 1) marks
marked_from n (false ∷ marks) = marked_from (n + 1) marks

-- how many are marked before each number, behind so many
abbrev pub counted_from : ℕ → List Bool → List ℕ
counted_from count [] = []
counted_from count (true ∷ marks) = count ∷ counted_from (count + 1) marks
counted_from count (false ∷ marks) = count ∷ counted_from count marks

-- What is kept are the numbers that are marked, in their order, each once.
pub record AreMarked (marks : List Bool) (kept : List ℕ) : Type 0 where
  pub among : (j n : ℕ) → slice_get kept j ≡ Some n → slice_get marks n ≡ Some true
  pub stand : (n : ℕ) → slice_get marks n ≡ Some true → (j : ℕ) × (slice_get kept j ≡ Some n)
  pub rise : (i j m n : ℕ) → slice_get kept i ≡ Some m → slice_get kept j ≡ Some n → m < n → i < j
  pub once : (i j m : ℕ) → slice_get kept i ≡ Some m → slice_get kept j ≡ Some m → i ≡ j

-- Each number that is kept has its place among them.
abbrev pub AreNumbered : List ℕ → List ℕ → Type 0
AreNumbered kept numbers = (j n : ℕ) → slice_get kept j ≡ Some n → slice_get numbers n ≡ Some j

-- a primitive, or a type that is kept
abbrev pub IsKeptPart : List ℕ → ℕ → Type 0
IsKeptPart kept part = (new : ℕ) × IsPart kept part new
