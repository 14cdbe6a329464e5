use Rattle.std.proofs.Common.{take}
use Rattle.text_types.specs.{Each.EachIs, Kept.defs_of, Kept.Grows, Scopes.text_in, Seen.SeenCase}
use Rattle.text_types.proofs.declared.cases_of.Given as goal

abbrev pub invariant-loop-tree : goal.invariant-loop-tree
invariant-loop-tree l = record {
  grows : Grows l.initial.types l.types;
  each : EachIs (SeenCase (defs_of l.types) (text_in l.scope)) (take l.tree-index l.trees) l.cases.items;
}
