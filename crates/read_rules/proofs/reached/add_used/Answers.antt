use Rattle.read_rules.specs.Tables.{numbered_tables}
use Rattle.read_rules.proofs.ReachedLaws.{type_turn, types_end}
use Rattle.read_rules.proofs.reached.add_used.Goals as goal

pub loop-ty-preserved : goal.loop-ty-preserved
loop-ty-preserved c = λ n. type_turn (numbered_tables c.args.tables.now) c.args.types.now c.loop-ty.ty-index c.loop-ty.used.keys n (c.loop-ty.invariant n) _ c.loop-ty-test.true
    c.add_type.new.used.keys c.in_ok-add_type.ensures

pub returns : goal.returns
returns c = λ n. types_end (numbered_tables c.args.tables.now) c.args.types.now c.loop-ty.ty-index c.loop-ty.used.keys n (c.loop-ty.invariant n) c.loop-ty-test.false
