use Rattle.std.proofs.Common.{refl}
use Rattle.std.specs.List.{flat_map}
use Rattle.text_plain.specs.Worlds.{scopes_in, worlds_of_scope}
use Rattle.text_plain.proofs.WorldLaws.{flat_turn, scopes_placed_in, text_there}
use Rattle.text_plain.proofs.worlds.worlds_of.Goals as goal

pub add_text-requires-clause-placed : goal.add_text-requires-clause-placed
add_text-requires-clause-placed c = scopes_placed_in c.args.whole.now c.loop-text.worlds.whole.now (scopes_in c.text-item.result) (scopes_in c.text-item.result) c.loop-text.invariant.same refl
    (text_there c.args.whole.now c.args.texts.now c.loop-text.text-index c.text-item.result c.requires c.loop-text-test.true c.text-item.is)

pub loop-text-preserved : goal.loop-text-preserved
loop-text-preserved c = flat_turn (λ text. flat_map worlds_of_scope (scopes_in text)) _ c.loop-text.worlds c.add_text.new.worlds c.args.texts.now c.loop-text.text-index c.text-item.result
    c.loop-text-test.true c.text-item.is c.loop-text.invariant c.in_ok-add_text.ensures
