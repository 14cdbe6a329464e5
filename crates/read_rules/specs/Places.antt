-- Imports and exports, by the places that they use and the place that they stand for (WIT.md, "Worlds").
use Rattle.std.specs.Prelude.{ℕ, List}
use Rattle.plan_meaning.specs.{NumberedViews.Tables, NumberedWorlds.NumberedSeen, NumberedWorlds.path_seen, NumberedWorlds.uses_of}

-- the places that an item uses, and those that it stands for
abbrev pub places_of : Tables → NumberedSeen → List ℕ × List ℕ
places_of t s = (uses_of t s.shown, path_seen s.shown)
