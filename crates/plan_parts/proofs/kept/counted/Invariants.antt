use Rattle.std.proofs.Common.{◌≡◌, take}
use Rattle.plan_parts.specs.Kept.{marked_from, counted_from}
use Rattle.plan_parts.proofs.kept.counted.Given as goal

-- so many marks are behind us
abbrev pub invariant-loop-shape : goal.invariant-loop-shape
invariant-loop-shape l = record { shapes : l.shapes.items ≡ marked_from 0 (take l.shape l.marks); numbers : l.numbers.items ≡ counted_from 0 (take l.shape l.marks) }
