use Rattle.std.proofs.Common.{option_map}
use Rattle.comp_bytes.specs.Reading.{result_list_at}
use Rattle.comp_meaning.specs.Follow.{given, value_type}
use Rattle.read_follow.specs.{ReadKeys.made_at, Slots.slots_in}
use Rattle.plan_meaning.specs.Shapes.{part_tree}
use Rattle.read_follow.proofs.{ReadKeyLaws.made_some, ReadKeyLaws.made_unmeant, ReadKeyLaws.made_unread, Refusing.refused}
use Rattle.read_follow.proofs.signatures.outcome_in.Goals as goal

pub returns-in-Ok-given_in-clause-found : goal.returns-in-Ok-given_in-clause-found
returns-in-Ok-given_in-clause-found c = λ T F. made_some (given (value_type (slots_in T F c.args.slots.now))) result_list_at c.args.bytes.now c.in-Ok.v c.in-Ok.rest.now
    (option_map (part_tree T) c.in-Ok-given_in.part) c.in-Ok.ensures (c.in-Ok-given_in.ensures.found T F)

pub returns-in-Err-given_in-clause-found : goal.returns-in-Err-given_in-clause-found
returns-in-Err-given_in-clause-found c = λ T F.
    let meaning = given (value_type (slots_in T F c.args.slots.now)) in
    refused c.in-Err-given_in.refusal (meaning c.in-Ok.v) (made_at meaning result_list_at c.args.bytes.now)
    (made_unmeant meaning result_list_at c.args.bytes.now c.in-Ok.v c.in-Ok.rest.now c.in-Ok.ensures) (c.in-Err-given_in.ensures.found T F)

pub returns-in-Err-clause-found : goal.returns-in-Err-clause-found
returns-in-Err-clause-found c = λ T F.
    let meaning = given (value_type (slots_in T F c.args.slots.now)) in
    refused c.in-Err.refusal (result_list_at c.args.bytes.now) (made_at meaning result_list_at c.args.bytes.now) (made_unread meaning result_list_at c.args.bytes.now) c.in-Err.ensures
