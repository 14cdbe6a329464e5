use Rattle.text_plain.specs.Worlds.{worlds_of_scope}
use Rattle.text_plain.proofs.WorldLaws.{flat_turn, placed_in, scope_there}
use Rattle.text_plain.proofs.worlds.add_scopes.Goals as goal

pub add_scope-requires-clause-placed : goal.add_scope-requires-clause-placed
add_scope-requires-clause-placed c = placed_in c.args.worlds.now.whole.now c.loop-scope.worlds.whole.now c.scope-item.result c.loop-scope.invariant.same
    (scope_there c.args.worlds.now.whole.now c.args.scopes.now c.loop-scope.scope-index c.scope-item.result c.requires.placed c.loop-scope-test.true c.scope-item.is)

pub loop-scope-preserved : goal.loop-scope-preserved
loop-scope-preserved c = flat_turn worlds_of_scope c.args.worlds.now c.loop-scope.worlds c.add_scope.new.worlds c.args.scopes.now c.loop-scope.scope-index c.scope-item.result
    c.loop-scope-test.true c.scope-item.is c.loop-scope.invariant c.in_ok-add_scope.ensures
