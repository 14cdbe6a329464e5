-- The first view of each place, and the first that shows functions, by number (Component Model WIT.md, "Package Format").
use Rattle.std.specs.Prelude.{◌≡◌, ◌<◌, ℕ, zero, suc, Bool, true, false, ◌&&◌, ◌==◌, cond, List, [], ◌∷◌, Option, Some, None, option_map, option_and_then, slice_get, slice_index_or}
use Rattle.plan_meaning.specs.NumberedViews.{NumberedSight, first_at, first_whole_at}
use Rattle.plan_parts.specs.declared.views.Sighted.{Sighted}

-- the number of the first that passes
abbrev pub first_index : {A : Type 0} → (A → Bool) → List A → Option ℕ
first_index test [] = None
first_index test (x ∷ xs) = cond (test x) (Some zero) (option_map suc (first_index test xs))

-- a view of the place, or one that shows functions
abbrev pub passes : Bool → ℕ → Sighted → Bool
passes false p s = p == s.place
passes true p s = p == s.place && s.whole

abbrev pub first_view : Bool → ℕ → List NumberedSight → Option NumberedSight
first_view false p seen = first_at p seen
first_view true p seen = first_whole_at p seen

-- the earlier of two, if there is one
abbrev pub earlier_of : Option ℕ → Option ℕ → Option ℕ
earlier_of None later = later
earlier_of (Some n) later = Some n

-- the place of a view, and whether it shows functions
abbrev pub sighted : Sighted → ℕ × Bool
sighted s = (s.place, s.whole)

abbrev pub in_numbers : NumberedSight → ℕ × Bool
in_numbers s = (s.place, s.whole)

-- The table tells the first view of each of so many places.
abbrev pub TellsFirst : Bool → ℕ → List NumberedSight → List (Option ℕ) → Type 0
TellsFirst wholes places seen table = (p : ℕ) → p < places → first_view wholes p seen ≡ option_and_then (slice_get seen) (slice_index_or table p None)
