use Rattle.std.proofs.Common.{arith, ap, length}
use Rattle.text_plain.proofs.ExpandLaws.{none_more, none_yet}
use Rattle.text_plain.proofs.NeedLaws.{longer}
use Rattle.text_plain.proofs.expand.nothing_done.Goals as goal

pub loop-init : goal.loop-init
loop-init c = (ap length c.new-done.ensures.items, none_yet c.new-done.result.items c.new-done.ensures.items)

pub loop-preserved : goal.loop-preserved
loop-preserved c = (
  omega (arith, longer c.loop.done.items c.push.new.self.items _ c.in_ok-push.ensures.items, c.loop.invariant.0),
  none_more c.loop.done.items c.push.new.self.items c.loop.invariant.1 c.in_ok-push.ensures.items,
)

pub returns-clause-many : goal.returns-clause-many
returns-clause-many c = omega (arith, c.loop.invariant.0, c.loop-test.false, c.loop.auto.counter-end)

pub returns-clause-none : goal.returns-clause-none
returns-clause-none c = c.loop.invariant.1
