use Rattle.std.proofs.Common.{ap, map}
use Rattle.read_follow.specs.KeyShapes.{label_of}
use Rattle.read_follow.proofs.RowLaws.{list_filled, no_tuple, tuple_is}
use Rattle.read_follow.proofs.definition_keys.tuple_key.Goals as goal

pub returns-in-Ok : goal.returns-in-Ok
returns-in-Ok c = tuple_is c.args.slots.now c.in-Ok.parts.items c.in-Ok.ensures.range c.args.values.now (map label_of c.new.result.items) (ap (map label_of) c.new.ensures.items)
    (list_filled c.args.values.now c.if-is_empty.ensures) c.in-Ok.ensures.found

pub returns-in-Err : goal.returns-in-Err
returns-in-Err c = λ T F named apart. no_tuple c.args.slots.now c.in-Err.refusal T F c.args.values.now (c.in-Err.ensures.absent T F)
