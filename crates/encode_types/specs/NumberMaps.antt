-- Maps from numbers to numbers.
use Rattle.std.specs.{Prelude.AllPairs, Prelude.Bool, Prelude.true, Prelude.List, Prelude.ℕ, Prelude.Option, Prelude.◌<◌, Prelude.◌-◌, Prelude.length, Prelude.nat_lt, Prelude.slice_get, Prelude.if◌then◌else◌, Prelude.filter_map, Prelude.is_some, Prelude.option_map, BTreeMap.is_at, List.Contains, Map.lookup, Option.option_map_or, Ordering.nat_cmp}

-- What such a map holds: each number with what stands with it. Besides, behind which entry numbers are put that are above it, if there is one,
-- and whether there is room there. And the places of the other numbers, with what stands there if they are filled.
pub record NumberEntries : Type 0 where
  pub entries : List (ℕ × ℕ)
  pub last : Option (ℕ × ℕ)
  pub room_behind : Bool
  pub places : List (ℕ × Option ℕ)

-- of places, those that are filled
abbrev pub filled : List (ℕ × Option ℕ) → List (ℕ × ℕ)
filled = filter_map (λ e. option_map (λ i. (e.0, i)) e.1)

-- the last of a list
abbrev pub last_of : List (ℕ × ℕ) → Option (ℕ × ℕ)
last_of es = slice_get es (length es - 1)

-- whether a number is above this one, if there is one
abbrev pub is_past : Option (ℕ × ℕ) → ℕ → Bool
is_past last n = option_map_or (λ e. nat_lt e.0 n) last true

-- whether there is room for a number, so that putting it in needs no memory
abbrev pub has_room : NumberEntries → ℕ → Bool
has_room m n = if is_past m.last n then m.room_behind else is_some (lookup (is_at (nat_cmp n)) m.places)

-- each number is below those after it
abbrev pub AreAscending : List (ℕ × ℕ) → Type 0
AreAscending es = AllPairs (λ x y. x.0 < y.0) es

-- each of these numbers is below this one
abbrev pub AreBelow : List (ℕ × ℕ) → ℕ → Type 0
AreBelow es n = (e : ℕ × ℕ) → Contains es e → e.0 < n
