use Rattle.std.proofs.Common.{◌≡◌, ◌++◌, map, drop}
use Rattle.read_rules.specs.Views.{numbered_type}
use Rattle.plan_types.specs.Showings.{numbered_showing, showing_of}
use Rattle.plan_types.proofs.showings.add_types.Given as goal

-- those that were added, and those that are left, are all
abbrev pub invariant-loop-ty : goal.invariant-loop-ty
invariant-loop-ty l = map numbered_showing l.all.items ++ map showing_of (drop l.ty-index (map numbered_type l.types)) ≡ map numbered_showing l.initial.all.items ++ map showing_of
    (map numbered_type l.types)
