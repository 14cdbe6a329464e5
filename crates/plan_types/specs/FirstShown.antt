-- What each type declares: what it is shown as first (Component Model WIT.md, "Package Format": views of one interface agree).
use Rattle.std.specs.Prelude.{◌≡◌, ◌<◌, ◌+◌, ◌==◌, ℕ, cond, List, Option, Some, None, option_map, length, slice_index_or}
use Rattle.std.specs.List.{find}
use Rattle.plan_types.specs.declared.showings.Showing.{Showing}
use Rattle.plan_types.specs.Showings.{NumberedShowing, numbered_showing}

-- the first showing of the type of this number
abbrev pub first_showing : ℕ → List NumberedShowing → Option NumberedShowing
first_showing n showings = find (λ s. 14 + n == s.part) showings

abbrev pub showing_at : List (Option Showing) → ℕ → Option NumberedShowing
showing_at table n = option_map numbered_showing (slice_index_or table n None)

-- the earlier of two, if there is one
abbrev pub earlier : Option NumberedShowing → Option NumberedShowing → Option NumberedShowing
earlier None later = later
earlier (Some s) later = Some s

-- what is shown is noted, unless its type was shown before
pub record IsNoted (s : NumberedShowing) (old new : List (Option Showing)) : Type 0 where
  pub many : length new ≡ length old
  pub each : (n : ℕ) → n < length old → showing_at new n ≡ earlier (showing_at old n) (cond (14 + n == s.part) (Some s) None)

-- The table tells the first showing of each type.
abbrev pub TellsFirst : List NumberedShowing → List (Option Showing) → Type 0
TellsFirst showings table = (n : ℕ) → n < length table → showing_at table n ≡ first_showing n showings
