use Rattle.std.proofs.Common.{Bool, drop, true}
use Rattle.teasel_answers.specs.{Checks.IsChecked}
use Rattle.teasel_files.specs.AllTell.{AllTell}
use Rattle.teasel_answers.proofs.checks.checks.Given as goal

abbrev pub invariant-loop-input : goal.invariant-loop-input
invariant-loop-input l = (all : Bool) → AllTell IsChecked (drop l.input-index l.inputs) l.all_read all → AllTell IsChecked l.inputs true all
