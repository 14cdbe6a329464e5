use Rattle.std.proofs.Common.{map}
use Rattle.read_rules.specs.Tables.{numbered_function_type}
use Rattle.read_numbers.specs.NumberedParts.{numbered_function}
use Rattle.read_numbers.proofs.LoopLaws.{made_more}
use Rattle.read_numbers.proofs.tables.functions_of.Goals as goal

pub loop-number-preserved : goal.loop-number-preserved
loop-number-preserved c = made_more numbered_function_type (map numbered_function c.args.functions.now) c.loop-number.number c.loop-number.types.items c.loop-number.invariant c.push.new.self.items
    c.function_at.result c.function_at.ensures c.in_ok-push.ensures.items
