-- How many types the table had when some first declarations had been followed, in numbers (Component Model Binary.md, "Index Spaces" and "Import and Export
-- Definitions").
use Rattle.std.specs.Prelude.{◌≡◌, ◌⊎◌, ◌<◌, ◌≤◌, ◌+◌, ℕ, true, List, map, Option, Some, slice_get}
use Rattle.std.specs.List.{Contains}
use Rattle.comp_meaning.specs.Rules.{distinct}
use Rattle.plan_meaning.specs.{NumberedViews.NumberedType, NumberedViews.Tables, Shapes.named_shape}
use Rattle.plan_meaning.specs.NumberedWorlds.{declares, NumberedInstance, NumberedScope, NumberedSeen}
use Rattle.read_numbers.specs.PlacedNumbers.{part_of, IsFirstSeen, IsInstanceAt}

-- The item of this number in the scope of this number stands in an earlier scope than the one that is cut, or among its first so many items.
abbrev pub StandsBefore : ℕ → ℕ → ℕ → ℕ → Type 0
StandsBefore m many n j = (n < m) ⊎ ((n ≡ m) × (j < many))

-- It stands in a later scope, or behind those items.
abbrev pub StandsBehind : ℕ → ℕ → ℕ → ℕ → Type 0
StandsBehind m many n j = (m < n) ⊎ ((n ≡ m) × (many ≤ j))

-- The table had so many types when of the scope of this number so many instances and so many imports had been followed. The types that
-- these show and import are among them. None of them is one that a later instance is the first to show, or that a later import names.
pub record IsCut (t : Tables) (ws : List NumberedScope) (m instances imports c : ℕ) : Type 0 where
  pub views_before : (n j : ℕ) (i : NumberedInstance) → IsInstanceAt ws n j i → StandsBefore m instances n j → (y : NumberedType) → Contains i.view.types y
      → part_of y.slot < 14 + c
  pub views_behind : (n j : ℕ) (i : NumberedInstance) → IsInstanceAt ws n j i → IsFirstSeen ws n j i.place → StandsBehind m instances n j
      → (y : NumberedType) → Contains i.view.types y → 14 + c ≤ part_of y.slot
  pub types_before : (n j : ℕ) (w : NumberedScope) (s : NumberedSeen) (d : Option ℕ) → slice_get ws n ≡ Some w → slice_get w.imports j ≡ Some s
      → s.shown ≡ declares d
      → StandsBefore m imports n j → (number : ℕ) → slice_get t.shapes number ≡ Some (named_shape w.home s.key) → number < c
  pub types_behind : (n j : ℕ) (w : NumberedScope) (s : NumberedSeen) (d : Option ℕ) → slice_get ws n ≡ Some w → slice_get w.imports j ≡ Some s
      → s.shown ≡ declares d
      → distinct (map (λ (x : NumberedSeen). x.key) w.imports) ≡ true → StandsBehind m imports n j
      → (number : ℕ) → slice_get t.shapes number ≡ Some (named_shape w.home s.key) → c ≤ number
