use Rattle.std.proofs.Common.{refl, subst, List}
use Rattle.std.specs.List.{flat_map}
use Rattle.text_plain.specs.Worlds.{AddsWorlds, worlds_of_scope}
use Rattle.text_plain.specs.declared.scopes.{Scope.Scope}
use Rattle.base_lemmas.proofs.Options.{on_ok}
use Rattle.text_plain.proofs.WorldLaws.{joined, nested_placed, scopes_placed_in}
use Rattle.text_plain.proofs.worlds.add_text.Goals as goal

pub add_scope-requires-clause-placed : goal.add_scope-requires-clause-placed
add_scope-requires-clause-placed c = c.requires.placed 0 c.args.text.now.main refl

pub add_scopes-requires-clause-placed : goal.add_scopes-requires-clause-placed
add_scopes-requires-clause-placed c = scopes_placed_in c.args.worlds.now.whole.now c.add_scope.new.worlds.whole.now c.args.text.now.nested.items c.deref.result.now
    c.in_ok-add_scope.ensures.same c.deref.ensures.value (nested_placed c.args.worlds.now.whole.now c.args.text.now c.requires.placed)

pub returns : goal.returns
returns c = on_ok c.add_scopes.result _ _ c.add_scopes.ensures
    (λ adds. joined c.args.worlds.now c.add_scope.new.worlds c.add_scopes.new.worlds (worlds_of_scope c.args.text.now.main) (flat_map worlds_of_scope c.args.text.now.nested.items)
    c.in_ok-add_scope.ensures (subst (λ (l : List Scope). AddsWorlds c.add_scope.new.worlds (flat_map worlds_of_scope l) c.add_scopes.new.worlds) c.deref.ensures.value adds))
