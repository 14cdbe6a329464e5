use Rattle.std.proofs.Common.{refl}
use Rattle.comp_bytes.specs.{FirstByte.function_type_at, Reading.field_at, Reading.result_list_at, Reading.vector_at}
use Rattle.comp_meaning.specs.Follow.{field_type, function_signature, given, value_type}
use Rattle.read_follow.specs.{ReadKeys.made_at, Slots.slots_in}
use Rattle.read_follow.proofs.{FunctionKeyLaws.outcome_in, ReadKeyLaws.key_found, ReadKeyLaws.no_end, ReadKeyLaws.no_key, Refusing.refused}
use Rattle.read_follow.proofs.signatures.function_key_at.Goals as goal

pub returns-in-Ok-outcome_in-clause-range : goal.returns-in-Ok-outcome_in-clause-range
returns-in-Ok-outcome_in-clause-range c = λ n ranges. record {
  params = c.in-Ok.ensures.range n ranges;
  outcome = outcome_in c.in-Ok-outcome_in.result c.args.slots.now c.in-Ok-outcome_in.ensures.range n ranges;
}

pub returns-in-Ok-outcome_in-clause-found : goal.returns-in-Ok-outcome_in-clause-found
returns-in-Ok-outcome_in-clause-found c = λ T F.
    key_found T (slots_in T F c.args.slots.now) c.args.is_async c.args.bytes.now (record { is_async = c.args.is_async; params = c.in-Ok.params; result = c.in-Ok-outcome_in.result })
    c.in-Ok.behind.now c.in-Ok-outcome_in.rest.now refl (c.in-Ok.ensures.found T F) (c.in-Ok-outcome_in.ensures.found T F)

pub returns-in-Ok-clause-found : goal.returns-in-Ok-clause-found
returns-in-Ok-clause-found c = λ T F.
    let slots = slots_in T F c.args.slots.now in
    refused c.in-Err-outcome_in.refusal (made_at (given (value_type slots)) result_list_at c.in-Ok.behind.now) (made_at (function_signature slots) (function_type_at c.args.is_async) c.args.bytes.now)
    (no_end T slots c.args.is_async c.args.bytes.now c.in-Ok.params.items c.in-Ok.behind.now (c.in-Ok.ensures.found T F)) (c.in-Err-outcome_in.ensures.found T F)

pub returns-clause-found : goal.returns-clause-found
returns-clause-found c = λ T F.
    let slots = slots_in T F c.args.slots.now in
    refused c.in-Err.refusal (vector_at (made_at (field_type slots) field_at) c.args.bytes.now) (made_at (function_signature slots) (function_type_at c.args.is_async) c.args.bytes.now)
    (no_key T slots c.args.is_async c.args.bytes.now) (c.in-Err.ensures.found T F)
