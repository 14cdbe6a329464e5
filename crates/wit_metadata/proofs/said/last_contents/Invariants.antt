use Rattle.std.proofs.Common.{length}
use Rattle.wit_metadata.proofs.SaidLaws.{IsPartlyRead}
use Rattle.wit_metadata.proofs.said.last_contents.Given as goal

-- the first sections of a component have been read, and the last contents among them are known
abbrev pub invariant-loop-rest : goal.invariant-loop-rest
invariant-loop-rest l = IsPartlyRead l.fn.bytes l.rest l.last

abbrev pub decreases-loop-rest : goal.decreases-loop-rest
decreases-loop-rest l = length l.rest
