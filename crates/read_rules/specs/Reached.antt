-- The imports of an interface's component type, and what they use.
use Rattle.std.specs.{Prelude.ℕ, Prelude.List, List.flat_map}
use Rattle.plan_meaning.specs.{NumberedViews.NumberedType, NumberedViews.NumberedView, NumberedViews.Tables, NumberedWorlds.used_by}
use Rattle.read_rules.specs.declared.reached.ImportedView.{ImportedView}
use Rattle.read_rules.specs.Views.{numbered_view}

abbrev pub numbered_import : ImportedView → ℕ × NumberedView
numbered_import i = (i.place, numbered_view i.view)

-- the places that the types use
abbrev pub used_by_types : Tables → List NumberedType → List ℕ
used_by_types t xs = flat_map (λ x. used_by t x.declared) xs
