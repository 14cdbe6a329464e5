use Rattle.std.proofs.Common.{take}
use Rattle.text_types.specs.{Each.EachIs, Scopes.text_in, Seen.SeenFlag}
use Rattle.text_types.proofs.declared.flags_of.Given as goal

abbrev pub invariant-loop-tree : goal.invariant-loop-tree
invariant-loop-tree l = EachIs (SeenFlag (text_in l.scope)) (take l.tree-index l.trees) l.flags.items
