use Rattle.std.proofs.Common.{map}
use Rattle.comp_bytes.specs.Reading.{sequence_at}
use Rattle.comp_bytes.proofs.SequenceSteps.{one_more, none_further, all_items}
use Rattle.read_follow.proofs.Refusing.{refused}
use Rattle.read_follow.proofs.vector.sequence_of.Goals as goal
use Rattle.base_lemmas.proofs.Elements.{all_end}

pub returns-in-Err-clause-found : goal.returns-in-Err-clause-found
returns-in-Err-clause-found g c = refused c.in-Err.refusal (g.T.Form.reader c.loop.rest.now) (sequence_at g.T.Form.reader c.args.count c.args.bytes.now)
    (none_further g.T.Form.reader g.T.Form.raw c.loop.items.items c.args.count c.loop.counter c.args.bytes.now c.loop.rest.now c.loop.invariant.1 c.loop-test.true) c.in-Err.ensures.found

pub loop-preserved : goal.loop-preserved
loop-preserved g c = (
  rw c.in_ok-push-in-Ok.ensures.items (all_end g.T.Form.whole c.loop.items.items c.in-Ok.item c.loop.invariant.0 c.in-Ok.ensures.whole),
  one_more g.T.Form.reader g.T.Form.raw c.loop.items.items c.args.count c.loop.counter c.args.bytes.now c.loop.rest.now c.loop.invariant.1 c.loop-test.true c.in-Ok.item c.in-Ok.behind.now
      c.push.new.self.items c.in-Ok.ensures.found c.in_ok-push-in-Ok.ensures.items,
)

pub returns-clause-found : goal.returns-clause-found
returns-clause-found g c = all_items g.T.Form.reader (map g.T.Form.raw c.loop.items.items) c.args.count c.loop.counter c.args.bytes.now c.loop.rest.now c.loop.invariant.1 c.loop-test.false
