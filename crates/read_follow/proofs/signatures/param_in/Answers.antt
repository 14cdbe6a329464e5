use Rattle.std.proofs.Common.{ap, Some}
use Rattle.comp_bytes.specs.{RawOf.labeled, Reading.◌>>=◌, Reading.field_at}
use Rattle.comp_meaning.specs.Follow.{field_type, value_type}
use Rattle.read_follow.specs.{ReadKeys.made_at, Slots.slots_in}
use Rattle.plan_meaning.specs.Shapes.{part_tree}
use Rattle.read_follow.proofs.{ReadKeyLaws.made_some, ReadKeyLaws.made_unmeant, ReadKeyLaws.made_unread, Refusing.refused}
use Rattle.read_follow.proofs.signatures.param_in.Goals as goal

pub returns-in-Ok-value_in-clause-found : goal.returns-in-Ok-value_in-clause-found
returns-in-Ok-value_in-clause-found c = λ T F. made_some (field_type (slots_in T F c.args.slots.now)) field_at c.args.bytes.now (labeled (c.in-Ok.name, c.in-Ok.v)) c.in-Ok.rest.now
    (c.in-Ok.name.now, part_tree T c.in-Ok-value_in.part) c.in-Ok.ensures (ap (λ o. o >>= λ t. Some (c.in-Ok.name.now, t)) (c.in-Ok-value_in.ensures.found T F))

pub returns-in-Err-value_in-clause-found : goal.returns-in-Err-value_in-clause-found
returns-in-Err-value_in-clause-found c = λ T F.
    refused c.in-Err-value_in.refusal (value_type (slots_in T F c.args.slots.now) c.in-Ok.v) (made_at (field_type (slots_in T F c.args.slots.now)) field_at c.args.bytes.now)
    (λ none. made_unmeant (field_type (slots_in T F c.args.slots.now)) field_at c.args.bytes.now (labeled (c.in-Ok.name, c.in-Ok.v)) c.in-Ok.rest.now c.in-Ok.ensures
    (ap (λ o. o >>= λ t. Some (c.in-Ok.name.now, t)) none)) (c.in-Err-value_in.ensures.found T F)

pub returns-in-Err-clause-found : goal.returns-in-Err-clause-found
returns-in-Err-clause-found c = λ T F. refused c.in-Err.refusal (field_at c.args.bytes.now) (made_at (field_type (slots_in T F c.args.slots.now)) field_at c.args.bytes.now)
    (made_unread (field_type (slots_in T F c.args.slots.now)) field_at c.args.bytes.now) c.in-Err.ensures
