use Rattle.std.proofs.Common.{◌≡◌, map, take, length}
use Rattle.plan_types.specs.{FirstShown.TellsFirst, Showings.numbered_showing}
use Rattle.plan_types.proofs.declared.note_all.Given as goal

-- the first of so many showings
abbrev pub invariant-loop-showing : goal.invariant-loop-showing
invariant-loop-showing l = record { many : length l.table ≡ length l.initial.table; told : TellsFirst (map numbered_showing (take l.showing-index l.showings)) l.table }
