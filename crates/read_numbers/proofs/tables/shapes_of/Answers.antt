use Rattle.read_rules.specs.Tables.{numbered_shape}
use Rattle.read_numbers.proofs.LoopLaws.{made_more}
use Rattle.read_numbers.proofs.tables.shapes_of.Goals as goal

pub loop-number-preserved : goal.loop-number-preserved
loop-number-preserved c = made_more numbered_shape c.args.table.now c.loop-number.number c.loop-number.shapes.items c.loop-number.invariant c.push.new.self.items c.shape_at.result c.shape_at.ensures
    c.in_ok-push.ensures.items
