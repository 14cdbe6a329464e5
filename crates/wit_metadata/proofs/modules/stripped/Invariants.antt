use Rattle.std.proofs.Common.{length}
use Rattle.wit_metadata.proofs.ModuleLaws.{IsRead}
use Rattle.wit_metadata.proofs.modules.stripped.Given as goal

-- sections in front have been read, and those kept that carry no world
abbrev pub invariant-loop-rest : goal.invariant-loop-rest
invariant-loop-rest l = IsRead l.fn.bytes l.rest l.kept.items l.is_bound

abbrev pub decreases-loop-rest : goal.decreases-loop-rest
decreases-loop-rest l = length l.rest
