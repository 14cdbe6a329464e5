use Rattle.read_follow.proofs.DefinitionKeyLaws.{future_key_is, no_future}
use Rattle.read_follow.proofs.definition_keys.future_key.Goals as goal

pub returns-in-Ok : goal.returns-in-Ok
returns-in-Ok c = future_key_is c.args.slots.now c.args.v c.in-Ok.part c.one_mark-number.result c.key_over.result c.one_mark-number.ensures c.key_over.ensures.shape c.key_over.ensures.memory
    c.in-Ok.ensures.range c.in-Ok.ensures.found

pub returns-in-Err : goal.returns-in-Err
returns-in-Err c = no_future c.args.slots.now c.args.v c.in-Err.refusal c.in-Err.ensures.found
