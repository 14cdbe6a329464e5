use Rattle.std.proofs.Common.{map, take}
use Rattle.std.specs.List.{AllZip}
use Rattle.text_trees.specs.TextTreesSeen.{nested_of}
use Rattle.text_plain.specs.Scopes.{IsScope}
use Rattle.text_plain.proofs.scopes.nested_scopes.Given as goal

-- the scopes are those of the packages so far
abbrev pub invariant-loop-tree : goal.invariant-loop-tree
invariant-loop-tree l = AllZip (λ n s. IsScope l.place.whole.now n.head n.items s) (map (nested_of l.place.from.now) (take l.tree-index l.trees)) l.nested.items
