use Rattle.std.proofs.Common.{take}
use Rattle.text_types.specs.{Each.EachIs, Scopes.text_in, Seen.SeenEnumCase}
use Rattle.text_types.proofs.declared.enum_cases_of.Given as goal

abbrev pub invariant-loop-tree : goal.invariant-loop-tree
invariant-loop-tree l = EachIs (SeenEnumCase (text_in l.scope)) (take l.tree-index l.trees) l.cases.items
