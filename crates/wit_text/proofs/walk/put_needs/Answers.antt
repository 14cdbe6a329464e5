use Rattle.std.proofs.Common.{arith}
use Rattle.wit_text.proofs.Walking.{needs_step, puts_none}
use Rattle.wit_text.proofs.walk.put_needs.Goals as goal

pub loop-need-init : goal.loop-need-init
loop-need-init c = puts_none c.args.walk.now c.args.entries.now.entries

pub loop-need-preserved : goal.loop-need-preserved
loop-need-preserved c =
    needs_step c.args.walk.now c.args.needs.now c.loop-need.need-index _ c.args.entries.now.entries c.loop-need.entries.entries c.put_need.new.entries.entries
    (omega arith) c.loop-need.invariant c.in_ok-put_need.ensures
