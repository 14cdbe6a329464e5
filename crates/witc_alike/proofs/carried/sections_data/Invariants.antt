use Rattle.std.proofs.Common.{length}
use Rattle.witc_alike.specs.Carried.{ListsData}
use Rattle.witc_alike.proofs.carried.sections_data.Given as goal

-- the data of the sections in front have been listed
abbrev pub invariant-loop-rest : goal.invariant-loop-rest
invariant-loop-rest l = ListsData l.fn.bytes l.rest l.text.items

abbrev pub decreases-loop-rest : goal.decreases-loop-rest
decreases-loop-rest l = length l.rest
