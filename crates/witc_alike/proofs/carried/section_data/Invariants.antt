use Rattle.std.proofs.Common.{length}
use Rattle.witc_alike.proofs.WalkLaws.{Walks}
use Rattle.witc_alike.proofs.carried.section_data.Given as goal

-- sections in front have been read, and so many of those that carry worlds are to be passed over
abbrev pub invariant-loop-rest : goal.invariant-loop-rest
invariant-loop-rest l = Walks l.fn.bytes l.fn.number l.rest l.left

abbrev pub decreases-loop-rest : goal.decreases-loop-rest
decreases-loop-rest l = length l.rest
