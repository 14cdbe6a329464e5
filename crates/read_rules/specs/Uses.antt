-- Whether what an import or an export uses stands earlier (WIT.md, "Worlds").
use Rattle.std.specs.{Prelude.◌≡◌, Prelude.◌++◌, Prelude.ℕ, Prelude.Bool, Prelude.List, List.list_all}
use Rattle.wit_model.specs.Uses.{has}
use Rattle.plan_meaning.specs.{NumberedViews.Tables, NumberedWorlds.NumberedSeen, NumberedWorlds.path_seen, NumberedWorlds.uses_of}

abbrev pub item_stands : Tables → List ℕ → NumberedSeen → Bool
item_stands t earlier s = list_all (has earlier) (uses_of t s.shown)

-- The new places are the old ones, and that of the interface that is seen.
abbrev pub IsPlaceAdded : List ℕ → NumberedSeen → List ℕ → Type 0
IsPlaceAdded old s new = (n : ℕ) → has new n ≡ has (old ++ path_seen s.shown) n
