use Rattle.read_rules.specs.Tables.{numbered_tables}
use Rattle.plan_types.specs.Used.{function_parts}
use Rattle.plan_types.proofs.MarkLaws.{marks_all, marks_next, marks_none}
use Rattle.plan_types.proofs.used.mark_functions.Goals as goal

pub loop-number-init : goal.loop-number-init
loop-number-init c = marks_none c.args.marks.now

pub loop-number-preserved : goal.loop-number-preserved
loop-number-preserved c = marks_next (function_parts (numbered_tables c.args.tables.now)) c.args.numbers.now c.loop-number.number-index _ c.args.marks.now c.loop-number.marks c.mark_function.new.marks
    c.loop-number-test.true c.loop-number.invariant c.mark_function.ensures

pub returns : goal.returns
returns c = marks_all (function_parts (numbered_tables c.args.tables.now)) c.args.numbers.now c.loop-number.number-index c.args.marks.now c.loop-number.marks c.loop-number-test.false
    c.loop-number.invariant
