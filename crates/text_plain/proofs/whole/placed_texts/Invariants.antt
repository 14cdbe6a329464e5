use Rattle.std.proofs.Common.{take}
use Rattle.text_plain.proofs.WholeLaws.{Placed}
use Rattle.text_plain.proofs.whole.placed_texts.Given as goal

-- the texts so far have their places
abbrev pub invariant-loop-number : goal.invariant-loop-number
invariant-loop-number l = Placed l.whole (take l.number l.texts) l.placed.items
