use Rattle.std.proofs.Common.{◌-◌, length}
use Rattle.plan_parts.specs.Marks.{parts_of}
use Rattle.plan_parts.proofs.MarkLaws.{AreClosed}
use Rattle.plan_parts.proofs.marks.close.Given as goal

-- the last so many have been looked at
abbrev pub invariant-loop-passed : goal.invariant-loop-passed
invariant-loop-passed l = AreClosed (parts_of l.parts) l.initial.marks l.marks (length l.parts - l.passed)
