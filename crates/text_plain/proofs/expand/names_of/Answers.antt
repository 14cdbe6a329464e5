use Rattle.text_plain.proofs.ExpandLaws.{names_turn}
use Rattle.text_plain.proofs.expand.names_of.Goals as goal

pub loop-used-preserved : goal.loop-used-preserved
loop-used-preserved c = names_turn c.args.place.now.from.now c.args.names.now c.loop-used.used-index _ _ _ c.loop-used-test.true
    c.loop-used.invariant c.in_ok-add_name.ensures
