use Rattle.text_plain.proofs.ScopeLaws.{heads_turn, its_place, own_place}
use Rattle.text_plain.proofs.scopes.heads_of.Goals as goal

pub add_head-requires : goal.add_head-requires
add_head-requires c = own_place (its_place c.args.whole.now c.args.texts.now c.loop-it.it-index c.it-item.result c.requires c.loop-it-test.true c.it-item.is)

pub loop-it-preserved : goal.loop-it-preserved
loop-it-preserved c = heads_turn c.args.whole.now c.args.texts.now c.loop-it.it-index c.it-item.result c.requires c.loop-it-test.true c.it-item.is
    c.loop-it.heads.entries c.add_head.new.heads.entries c.loop-it.invariant c.in_ok-add_head.ensures
