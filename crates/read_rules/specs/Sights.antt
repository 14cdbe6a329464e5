-- Views of interfaces by their places, as the numbers and texts that they stand for.
use Rattle.std.specs.Prelude.{◌≡◌, ℕ, Bool, List, ◌++◌, map}
use Rattle.std.specs.List.{flat_map}
use Rattle.plan_meaning.specs.{NumberedRules.is_interface, NumberedWorlds.sights_of_instance, NumberedViews.NumberedSight, NumberedViews.NumberedView}
use Rattle.read_rules.specs.{Scopes.numbered_instance, Tables.known_in, Tables.numbered_tables, Views.numbered_view}
use Rattle.read_rules.specs.declared.{scopes.Instance.Instance, sights.Sight.Sight, tables.Tables.Tables}

abbrev pub numbered_sight : Sight → NumberedSight
numbered_sight s = record { place = s.place; view = numbered_view s.view; whole = s.whole }

-- the view is one that the interface of its place may show
abbrev pub shows_interface : Tables → NumberedSight → Bool
shows_interface t s = is_interface (numbered_tables t) (known_in t) s.place s.view

-- the place of an instance and what it shows
abbrev pub placed_view : Instance → ℕ × NumberedView
placed_view i = (i.place, numbered_view i.view)

-- The new sights are the old ones, and these behind them.
abbrev pub AreBehind : List Sight → List NumberedSight → List Sight → Type 0
AreBehind old added new = map numbered_sight new ≡ map numbered_sight old ++ added

-- what instances show, in their order
abbrev pub sights_of_all : Tables → List Instance → List NumberedSight
sights_of_all t instances = flat_map (sights_of_instance (numbered_tables t)) (map numbered_instance instances)
