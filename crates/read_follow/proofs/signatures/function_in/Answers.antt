use Rattle.std.proofs.Common.{◌∙◌, ap, sym, Some}
use Rattle.comp_meaning.specs.Follow.{function_in}
use Rattle.read_follow.specs.Slots.{slot_in}
use Rattle.read_follow.proofs.SlotLaws.{at_slot, no_slot, no_function}
use Rattle.read_follow.proofs.signatures.function_in.Goals as goal

pub returns-in-Some-Function-clause-at : goal.returns-in-Some-Function-clause-at
returns-in-Some-Function-clause-at c = sym c.slot_at.ensures ∙ (c.in-Some-Function.is ∙ ap Some c.in-Some-Function.field-0-is)

pub returns-in-Some-Function-clause-found : goal.returns-in-Some-Function-clause-found
returns-in-Some-Function-clause-found c = λ T F. ap function_in (at_slot c.args.slots.now c.args.n T F _ (sym c.slot_at.ensures ∙ (c.in-Some-Function.is ∙ ap Some c.in-Some-Function.field-0-is)))

pub returns-in-Some-Value-clause-found : goal.returns-in-Some-Value-clause-found
returns-in-Some-Value-clause-found c = λ T F. ap function_in (at_slot c.args.slots.now c.args.n T F c.in-Some-Value.field-0 (sym c.slot_at.ensures ∙ c.in-Some-Value.is)) ∙ ap
    (λ s. function_in (Some (slot_in T F s))) c.in-Some-Value.field-0-is

pub returns-in-Some-Resource-clause-found : goal.returns-in-Some-Resource-clause-found
returns-in-Some-Resource-clause-found c = λ T F. ap function_in (at_slot c.args.slots.now c.args.n T F c.in-Some-Resource.field-0 (sym c.slot_at.ensures ∙ c.in-Some-Resource.is))
    ∙ (ap (λ s. function_in (Some (slot_in T F s))) c.in-Some-Resource.field-0-is ∙ no_function _)

pub returns-in-Some-Instance-clause-found : goal.returns-in-Some-Instance-clause-found
returns-in-Some-Instance-clause-found c = λ T F. ap function_in (at_slot c.args.slots.now c.args.n T F c.in-Some-Instance.field-0 (sym c.slot_at.ensures ∙ c.in-Some-Instance.is)) ∙ ap
    (λ s. function_in (Some (slot_in T F s))) c.in-Some-Instance.field-0-is

pub returns-in-None-clause-found : goal.returns-in-None-clause-found
returns-in-None-clause-found c = λ T F. ap function_in (no_slot c.args.slots.now c.args.n T F (sym c.slot_at.ensures ∙ c.in-None.is))
