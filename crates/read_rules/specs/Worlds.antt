-- The rules on one import and one export of a world (WIT.md, "Worlds").
use Rattle.std.specs.Prelude.{◌≡◌, ℕ, Bool, ◌&&◌, ◌||◌, List, []}
use Rattle.std.specs.List.{list_all, list_any}
use Rattle.wit_model.specs.Text.{Text}
use Rattle.plan_meaning.specs.NumberedWorlds.{NumberedSeen, is_item, is_resource_seen}
use Rattle.read_rules.specs.declared.tables.Tables.{Tables}
use Rattle.read_rules.specs.Tables.{known_in, numbered_tables}

-- it may stand behind these resources of the world
abbrev pub may_be_imported : Tables → ℕ → List Text → NumberedSeen → Bool
may_be_imported t home resources s = is_item (numbered_tables t) (known_in t) home resources s.key s.shown

abbrev pub may_be_exported : Tables → ℕ → NumberedSeen → Bool
may_be_exported t home s = may_be_imported t home [] s

abbrev pub are_exports : Tables → ℕ → List NumberedSeen → Bool
are_exports t home ss = list_all (may_be_exported t home) ss

-- The new names are the old ones, and that of what is seen if it is a resource.
abbrev pub IsAdded : List Text → NumberedSeen → List Text → Type 0
IsAdded old s new = (test : Text → Bool) → list_any test new ≡ (list_any test old || (is_resource_seen s.shown && test s.key))
