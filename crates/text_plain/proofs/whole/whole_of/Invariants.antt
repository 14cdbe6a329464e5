use Rattle.std.proofs.Common.{take}
use Rattle.text_plain.proofs.WholeLaws.{Holds}
use Rattle.text_plain.proofs.whole.whole_of.Given as goal

-- the texts so far stand in the whole one
abbrev pub invariant-loop-it : goal.invariant-loop-it
invariant-loop-it l = Holds (take l.it-index l.texts) l.whole
