use Rattle.text_plain.proofs.WholeLaws.{text_turn}
use Rattle.text_plain.proofs.whole.whole_of.Goals as goal

pub loop-it-preserved : goal.loop-it-preserved
loop-it-preserved c = text_turn c.args.texts.now c.loop-it.it-index c.it-item.result c.loop-it-test.true c.it-item.is c.loop-it.whole c.add_text.new.whole c.loop-it.whole.text.bytes.ok.0
    c.loop-it.invariant c.in_ok-add_text.ensures.ok
