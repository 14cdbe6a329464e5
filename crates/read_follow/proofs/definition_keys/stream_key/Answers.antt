use Rattle.read_follow.proofs.DefinitionKeyLaws.{stream_key_is, no_stream}
use Rattle.read_follow.proofs.definition_keys.stream_key.Goals as goal

pub returns-in-Ok : goal.returns-in-Ok
returns-in-Ok c = stream_key_is c.args.slots.now c.args.v c.in-Ok.part c.one_mark-number.result c.key_over.result c.one_mark-number.ensures c.key_over.ensures.shape c.key_over.ensures.memory
    c.in-Ok.ensures.range c.in-Ok.ensures.found

pub returns-in-Err : goal.returns-in-Err
returns-in-Err c = no_stream c.args.slots.now c.args.v c.in-Err.refusal c.in-Err.ensures.found
