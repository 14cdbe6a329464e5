use Rattle.comp_bytes.specs.Reading.{sequence_at}
use Rattle.read_follow.specs.Bodies.{behind}
use Rattle.read_follow.proofs.{Refusing.refused, SkipLaws.skip_one, SkipLaws.skip_none, SkipLaws.skip_all}
use Rattle.read_follow.proofs.skips.skip_each.Goals as goal

pub returns-in-Err : goal.returns-in-Err
returns-in-Err g c = refused c.in-Err.refusal (behind (g.T.Skips.reader c.loop.rest.now)) (behind (sequence_at g.T.Skips.reader c.args.count c.args.bytes.now))
    (skip_none g.T.Skips.reader c.args.count c.loop.counter c.args.bytes.now c.loop.rest.now c.loop.invariant c.loop-test.true) c.in-Err.ensures

pub loop-preserved : goal.loop-preserved
loop-preserved g c = skip_one g.T.Skips.reader c.args.count c.loop.counter c.args.bytes.now c.loop.rest.now c.loop.invariant c.loop-test.true c.in-Ok.after.now c.in-Ok.ensures

pub returns : goal.returns
returns g c = skip_all g.T.Skips.reader c.args.count c.loop.counter c.args.bytes.now c.loop.rest.now c.loop.invariant c.loop-test.false
