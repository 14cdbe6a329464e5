use Rattle.read_follow.proofs.DefinitionKeyLaws.{map_key_is, no_key, no_first, no_second}
use Rattle.read_follow.proofs.definition_keys.map_key.Goals as goal

pub returns-then-is_key_part : goal.returns-then-is_key_part
returns-then-is_key_part c = map_key_is c.args.slots.now c.args.key c.args.v c.in-Ok.key_part c.in-Ok-value_in.part c.in-Ok.ensures.found c.in-Ok-value_in.ensures.found c.is_key_part.result
    c.is_key_part.ensures c.if-is_key_part.true c.key_over.result c.key_over.ensures.shape c.key_over.ensures.memory c.in-Ok.ensures.range c.in-Ok-value_in.ensures.range

pub returns-else-is_key_part : goal.returns-else-is_key_part
returns-else-is_key_part c = λ T F named apart. no_key c.args.slots.now c.args.key c.args.v c.in-Ok.key_part c.in-Ok-value_in.part c.in-Ok.ensures.found c.in-Ok-value_in.ensures.found
    c.is_key_part.result c.is_key_part.ensures c.if-is_key_part.false T F apart

pub returns-in-Err : goal.returns-in-Err
returns-in-Err c = no_first c.args.slots.now c.args.key c.args.v c.in-Err.refusal c.in-Err.ensures.found

pub returns-in-Err-value_in : goal.returns-in-Err-value_in
returns-in-Err-value_in c = no_second c.args.slots.now c.args.key c.args.v c.in-Err-value_in.refusal c.in-Err-value_in.ensures.found
