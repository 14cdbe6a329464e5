-- All views that are exported, inline ones too, in the order in which they were followed (Component Model WIT.md, "Package Format").
use Rattle.std.specs.Prelude.{ℕ, true, false, List, [], ◌∷◌, ◌++◌, map}
use Rattle.std.specs.List.{flat_map}
use Rattle.plan_meaning.specs.NumberedMembers.{NumberedMember, NumberedPart, interface, world}
use Rattle.plan_meaning.specs.{NumberedViews.NumberedSight, NumberedViews.NumberedView, NumberedWorlds.NumberedInstance}

-- the view of an instance, whole
abbrev pub whole_view : NumberedInstance → NumberedSight
whole_view i = record { place = i.place; view = i.view; whole = true }

-- the view of an import of an interface's component type, which shows types alone
abbrev pub types_alone : ℕ × NumberedView → NumberedSight
types_alone i = record { place = i.0; view = i.1; whole = false }

abbrev pub views_of_part : NumberedPart → List NumberedSight
views_of_part (world w) = map whole_view w.instances
views_of_part (interface p v imports) = map types_alone imports ++ record { place = p; view = v; whole = true } ∷ []

abbrev pub views_of_members : List NumberedMember → List NumberedSight
views_of_members ms = flat_map (λ m. views_of_part m.part) ms
