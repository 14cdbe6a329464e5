use Rattle.std.proofs.Common.{take}
use Rattle.text_names.specs.Tables.{AddsPackages}
use Rattle.text_names.proofs.sources.Sources.add_nested.Given as goal

-- the packages so far are added
abbrev pub invariant-loop-tree : goal.invariant-loop-tree
invariant-loop-tree l = AddsPackages l.initial.self l.self l.number (take l.tree-index l.trees.items)
