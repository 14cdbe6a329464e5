use Rattle.std.proofs.Common.{◌∙◌, ap, sym, Some}
use Rattle.comp_meaning.specs.Follow.{value_type, value_in}
use Rattle.plan_meaning.specs.Shapes.{part_tree}
use Rattle.read_follow.specs.Slots.{slot_in, slots_in}
use Rattle.read_follow.proofs.SlotLaws.{primitive_small, part_below, primitive_part, value_part, value_resource, value_function, value_instance, value_none}
use Rattle.read_follow.proofs.slots.value_in.Goals as goal

pub returns-in-Primitive-clause-found : goal.returns-in-Primitive-clause-found
returns-in-Primitive-clause-found c = λ T F. ap (value_type (slots_in T F c.args.slots.now)) c.in-Primitive.is ∙ ap Some
    (primitive_part T c.in-Primitive.primitive ∙ ap (part_tree T) (sym c.primitive_index.ensures))

pub returns-in-Some-Value-clause-found : goal.returns-in-Some-Value-clause-found
returns-in-Some-Value-clause-found c = λ T F. ap (value_type (slots_in T F c.args.slots.now)) c.in-Type_.is ∙ value_part c.args.slots.now c.in-Type_.n T F c.in-Some-Value.part
    (sym c.slot_at.ensures ∙ (c.in-Some-Value.is ∙ ap Some c.in-Some-Value.field-0-is))

pub returns-in-Some-Resource-clause-found : goal.returns-in-Some-Resource-clause-found
returns-in-Some-Resource-clause-found c = λ T F. ap (value_type (slots_in T F c.args.slots.now)) c.in-Type_.is ∙ value_resource c.args.slots.now c.in-Type_.n T F c.in-Some-Resource.field-0-0
    (sym c.slot_at.ensures ∙ (c.in-Some-Resource.is ∙ ap Some c.in-Some-Resource.field-0-is))

pub returns-in-Some-Function-clause-found : goal.returns-in-Some-Function-clause-found
returns-in-Some-Function-clause-found c = λ T F. ap (value_type (slots_in T F c.args.slots.now)) c.in-Type_.is ∙ value_function c.args.slots.now c.in-Type_.n T F c.in-Some-Function.field-0-0
    (sym c.slot_at.ensures ∙ (c.in-Some-Function.is ∙ ap Some c.in-Some-Function.field-0-is))

pub returns-in-Some-Instance-clause-found : goal.returns-in-Some-Instance-clause-found
returns-in-Some-Instance-clause-found c = λ T F. ap (value_type (slots_in T F c.args.slots.now)) c.in-Type_.is
    ∙ value_instance c.args.slots.now c.in-Type_.n T F c.in-Some-Instance.field-0 (sym c.slot_at.ensures ∙ c.in-Some-Instance.is)
    (ap (λ s. value_in (Some (slot_in T F s))) c.in-Some-Instance.field-0-is)

pub returns-in-None-clause-found : goal.returns-in-None-clause-found
returns-in-None-clause-found c = λ T F. ap (value_type (slots_in T F c.args.slots.now)) c.in-Type_.is ∙ value_none c.args.slots.now c.in-Type_.n T F (sym c.slot_at.ensures ∙ c.in-None.is)

pub returns-in-Primitive-clause-range : goal.returns-in-Primitive-clause-range
returns-in-Primitive-clause-range c = λ n ranges. rw c.primitive_index.ensures (primitive_small c.in-Primitive.primitive n)

pub returns-in-Some-Value-clause-range : goal.returns-in-Some-Value-clause-range
returns-in-Some-Value-clause-range c = λ n ranges. part_below n c.args.slots.now c.in-Type_.n c.in-Some-Value.part
    (sym c.slot_at.ensures ∙ (c.in-Some-Value.is ∙ ap Some c.in-Some-Value.field-0-is)) ranges
