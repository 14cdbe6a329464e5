use Rattle.std.proofs.Common.{Bool, drop, true}
use Rattle.teasel_answers.specs.{Kinds.IsKnown}
use Rattle.teasel_files.specs.AllTell.{AllTell}
use Rattle.teasel_answers.proofs.kinds.kinds.Given as goal

abbrev pub invariant-loop-input : goal.invariant-loop-input
invariant-loop-input l = (all : Bool) → AllTell IsKnown (drop l.input-index l.inputs) l.all_known all → AllTell IsKnown l.inputs true all
