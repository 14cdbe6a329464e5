use Rattle.std.proofs.Common.{arith, refl}
use Rattle.text_plain.proofs.WholeLaws.{base_within, place_turn, stands_there}
use Rattle.text_plain.proofs.whole.placed_texts.Goals as goal

pub bounds-bases-number : goal.bounds-bases-number
bounds-bases-number c = base_within c.args.whole.now c.args.texts.now c.args.bases.now c.loop-number.number c.requires.stands (omega (arith, c.loop-number-test.true))

pub loop-number-preserved : goal.loop-number-preserved
loop-number-preserved c = place_turn c.args.whole.now c.args.texts.now c.loop-number.number c.index-texts-number.result (omega (arith, c.loop-number-test.true)) c.index-texts-number.is
    c.loop-number.placed.items c.push.new.self.items _ c.loop-number.invariant c.in_ok-push.ensures.items
    (let at = stands_there c.args.whole.now c.args.texts.now c.args.bases.now c.loop-number.number c.index-texts-number.result c.requires.stands
    (omega (arith, c.loop-number-test.true)) c.index-texts-number.is in
    record { is = refl; stands = at.there; within = at.within; short = c.requires.short })
    refl
