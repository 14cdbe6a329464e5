use Rattle.text_trees.specs.TextTreesSeen.{nested_of}
use Rattle.text_plain.specs.Scopes.{IsScope}
use Rattle.text_plain.proofs.ScopeLaws.{zip_turn}
use Rattle.text_plain.proofs.scopes.nested_scopes.Goals as goal

pub loop-tree-preserved : goal.loop-tree-preserved
loop-tree-preserved c = zip_turn (λ n s. IsScope c.args.place.now.whole.now n.head n.items s) (nested_of c.args.place.now.from.now) c.args.trees.now c.loop-tree.tree-index c.tree-item.result
    c.loop-tree.nested.items c.push.new.self.items c.in_ok-nested_scope.field-0 c.loop-tree-test.true c.tree-item.is c.loop-tree.invariant c.in_ok-push.ensures.items
    c.in_ok-nested_scope.ensures
