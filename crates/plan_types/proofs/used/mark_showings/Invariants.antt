use Rattle.std.proofs.Common.{take}
use Rattle.std.specs.List.{flat_map}
use Rattle.read_rules.specs.Tables.{numbered_tables}
use Rattle.plan_types.specs.{Showings.numbered_showing, Used.showing_parts, Used.Marks}
use Rattle.plan_types.proofs.used.mark_showings.Given as goal

-- the marks of so many
abbrev pub invariant-loop-showing : goal.invariant-loop-showing
invariant-loop-showing l = Marks (flat_map (λ s. showing_parts (numbered_tables l.tables) (numbered_showing s)) (take l.showing-index l.showings)) l.initial.marks l.marks
