use Rattle.std.proofs.Common.{arith, ap, length, refl}
use Rattle.std.proofs.lemmas.Option.{slice_get_read}
use Rattle.text_plain.proofs.NeedLaws.{all_more, all_within, longer}
use Rattle.text_plain.proofs.needs.needs_of_worlds.Goals as goal

pub needs_of-requires-clause-placed : goal.needs_of-requires-clause-placed
needs_of-requires-clause-placed c = c.requires.placed c.loop-world.world-index c.world-item.result
    (slice_get_read c.args.worlds.now.worlds.items (length c.args.worlds.now.worlds.items) c.loop-world.world-index c.world-item.result refl
    (omega (arith, ap length c.deref-world-items.ensures.value, c.loop-world-test.true)) (cc (c.world-item.is, c.deref-world-items.ensures.value)))

pub loop-world-preserved : goal.loop-world-preserved
loop-world-preserved c = (
  all_more (length c.args.worlds.now.worlds.items) c.loop-world.all.items c.push.new.self.items c.in_ok-needs_of.field-0 c.loop-world.invariant.0 c.in_ok-push.ensures.items
      c.in_ok-needs_of.ensures,
  omega (arith, longer c.loop-world.all.items c.push.new.self.items c.in_ok-needs_of.field-0 c.in_ok-push.ensures.items, c.loop-world.invariant.1),
)

pub returns : goal.returns
returns c = all_within (length c.args.worlds.now.worlds.items) c.loop-world.all.items c.loop-world.invariant.0
    (omega (arith, ap length c.deref-world-items.ensures.value, c.loop-world-test.false, c.loop-world.invariant.1))
