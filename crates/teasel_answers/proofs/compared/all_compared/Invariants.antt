use Rattle.std.proofs.Common.{Bool, drop, true}
use Rattle.teasel_answers.proofs.LentLaws.{tells_lent}
use Rattle.teasel_files.specs.AllTell.{AllTell}
use Rattle.teasel_answers.proofs.compared.all_compared.Given as goal

abbrev pub invariant-loop-value : goal.invariant-loop-value
invariant-loop-value l = (all : Bool) → AllTell (tells_lent l.input.bytes.items) (drop l.value-index l.pairs) l.all_fit all → AllTell (tells_lent l.input.bytes.items) l.pairs true all
