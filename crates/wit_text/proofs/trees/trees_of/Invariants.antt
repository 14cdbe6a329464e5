use Rattle.std.proofs.Common.{take}
use Rattle.wit_text.proofs.Refusing.{TreesOf}
use Rattle.wit_text.proofs.trees.trees_of.Given as goal

abbrev pub invariant-loop-number : goal.invariant-loop-number
invariant-loop-number l = TreesOf (take l.number l.texts) l.trees.items
