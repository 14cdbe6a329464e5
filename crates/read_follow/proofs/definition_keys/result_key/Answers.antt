use Rattle.read_follow.proofs.DefinitionKeyLaws.{result_key_is, no_ok, no_err}
use Rattle.read_follow.proofs.definition_keys.result_key.Goals as goal

pub returns-in-Ok-given_in : goal.returns-in-Ok-given_in
returns-in-Ok-given_in c = result_key_is c.args.slots.now c.args.ok c.args.err c.in-Ok.ok_part c.in-Ok-given_in.err_part c.two_marks-number.result c.key_over.result c.two_marks-number.ensures
    c.key_over.ensures.shape c.key_over.ensures.memory c.in-Ok.ensures.range c.in-Ok-given_in.ensures.range c.in-Ok.ensures.found c.in-Ok-given_in.ensures.found

pub returns-in-Err : goal.returns-in-Err
returns-in-Err c = no_ok c.args.slots.now c.args.ok c.args.err c.in-Err.refusal c.in-Err.ensures.found

pub returns-in-Err-given_in : goal.returns-in-Err-given_in
returns-in-Err-given_in c = no_err c.args.slots.now c.args.ok c.args.err c.in-Err-given_in.refusal c.in-Err-given_in.ensures.found
