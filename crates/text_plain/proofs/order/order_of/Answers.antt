use Rattle.std.proofs.Common.{◌<◌, arith, length}
use Rattle.text_plain.specs.Orders.{links_of}
use Rattle.text_plain.proofs.WalkLaws.{arrives, ends, none_arrives, starts, stays, links_long}
use Rattle.text_plain.proofs.order.order_of.Goals.{in-New+in_ok-enter-in-New+in_ok-number-in-New+in-None, in-Open, in-Done}
use Rattle.text_plain.proofs.order.order_of.Goals as goal

pub walk_on-requires-clause-walks : goal.walk_on-requires-clause-walks
walk_on-requires-clause-walks c =
    starts (links_of c.args.needs.now) c.loop-first.walk.states.items c.loop-first.walk.path.items c.loop-first.walk.done.items c.loop-first.first c.in_ok-number.number c.loop-first.invariant.0
    c.loop-first.invariant.1
    (omega (arith, c.loop-first-test.true, c.loop-first.invariant.0.many, links_long c.args.needs.now)) c.in_ok-number.ensures.ok c.index.result.now c.index.ensures c.in-New.is
    c.enter.new.walk c.in_ok-enter-in-New.ensures.states c.in_ok-enter-in-New.ensures.path c.in_ok-enter-in-New.ensures.done

pub returns-clause-order : goal.returns-clause-order
returns-clause-order c = ends (links_of c.args.needs.now) c.loop-first.walk.states.items c.loop-first.walk.done.items c.loop-first.invariant.0
    (λ n below. c.loop-first.invariant.2 n (omega (arith, below, c.loop-first-test.false, links_long c.args.needs.now)))

pub loop-first-preserved : goal.loop-first-preserved
loop-first-preserved c =
    let below : c.loop-first.first < length c.loop-first.walk.states.items = omega (arith, c.loop-first-test.true, c.loop-first.invariant.0.many, links_long c.args.needs.now) in
    elim c.match-index.branch [
      | in-New+in_ok-enter-in-New+in_ok-number-in-New+in-None w ↦ rw w.walk-is (arrives (links_of c.args.needs.now) c.loop-first.walk.states.items c.loop-first.walk.path.items
          c.loop-first.walk.done.items c.loop-first.first c.in_ok-number.number c.loop-first.invariant.0 c.loop-first.invariant.1 below c.in_ok-number.ensures.ok c.index.result.now c.index.ensures
          w.in-New.is w.enter.new.walk w.walk_on.new.walk w.in_ok-enter-in-New.ensures.states
          (none_arrives c.args.needs.now w.enter.new.walk.states.items w.walk_on.new.walk _ w.in-None.is w.in_ok-number-in-New.ensures) c.loop-first.invariant.2)
      | in-Open w ↦ rw w.walk-is (
        c.loop-first.invariant.0,
        c.loop-first.invariant.1,
        stays (links_of c.args.needs.now) c.loop-first.walk.states.items c.loop-first.walk.path.items
            c.loop-first.walk.done.items c.loop-first.first c.in_ok-number.number c.loop-first.invariant.0 c.loop-first.invariant.1 below c.in_ok-number.ensures.ok c.index.result.now c.index.ensures
            (λ is. cc (w.in-Open.is)) c.loop-first.invariant.2,
      )
      | in-Done w ↦ rw w.walk-is (
        c.loop-first.invariant.0,
        c.loop-first.invariant.1,
        stays (links_of c.args.needs.now) c.loop-first.walk.states.items c.loop-first.walk.path.items
            c.loop-first.walk.done.items c.loop-first.first c.in_ok-number.number c.loop-first.invariant.0 c.loop-first.invariant.1 below c.in_ok-number.ensures.ok c.index.result.now c.index.ensures
            (λ is. cc (w.in-Done.is)) c.loop-first.invariant.2,
      )
    ]
