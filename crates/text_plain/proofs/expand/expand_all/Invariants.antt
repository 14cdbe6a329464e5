use Rattle.text_plain.specs.Expanding.{AreExpanded}
use Rattle.text_plain.proofs.expand.expand_all.Given as goal

-- what is done so far is right
abbrev pub invariant-loop-number : goal.invariant-loop-number
invariant-loop-number l = AreExpanded l.worlds l.done.items
