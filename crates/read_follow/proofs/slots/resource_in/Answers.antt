use Rattle.std.proofs.Common.{◌∙◌, ap, sym, Some}
use Rattle.comp_meaning.specs.Follow.{resource_in}
use Rattle.read_follow.specs.Slots.{slot_in}
use Rattle.read_follow.proofs.SlotLaws.{name_below, resource_part, no_resource, resource_none}
use Rattle.read_follow.proofs.slots.resource_in.Goals as goal

pub returns-in-Some-Resource-clause-found : goal.returns-in-Some-Resource-clause-found
returns-in-Some-Resource-clause-found c = λ T F named. resource_part c.args.slots.now c.args.n T F c.in-Some-Resource.part
    (sym c.slot_at.ensures ∙ (c.in-Some-Resource.is ∙ ap Some c.in-Some-Resource.field-0-is)) named

pub returns-in-Some-Value-clause-found : goal.returns-in-Some-Value-clause-found
returns-in-Some-Value-clause-found c = λ T F named. no_resource c.args.slots.now c.args.n T F c.in-Some-Value.field-0 (sym c.slot_at.ensures ∙ c.in-Some-Value.is)
    (ap (λ s. resource_in (Some (slot_in T F s))) c.in-Some-Value.field-0-is)

pub returns-in-Some-Function-clause-found : goal.returns-in-Some-Function-clause-found
returns-in-Some-Function-clause-found c = λ T F named. no_resource c.args.slots.now c.args.n T F c.in-Some-Function.field-0 (sym c.slot_at.ensures ∙ c.in-Some-Function.is)
    (ap (λ s. resource_in (Some (slot_in T F s))) c.in-Some-Function.field-0-is)

pub returns-in-Some-Instance-clause-found : goal.returns-in-Some-Instance-clause-found
returns-in-Some-Instance-clause-found c = λ T F named. no_resource c.args.slots.now c.args.n T F c.in-Some-Instance.field-0 (sym c.slot_at.ensures ∙ c.in-Some-Instance.is)
    (ap (λ s. resource_in (Some (slot_in T F s))) c.in-Some-Instance.field-0-is)

pub returns-in-None-clause-found : goal.returns-in-None-clause-found
returns-in-None-clause-found c = λ T F named. resource_none c.args.slots.now c.args.n T F (sym c.slot_at.ensures ∙ c.in-None.is)

pub returns-in-Some-Resource-clause-range : goal.returns-in-Some-Resource-clause-range
returns-in-Some-Resource-clause-range c = λ n ranges. name_below n c.args.slots.now c.args.n c.in-Some-Resource.part
    (sym c.slot_at.ensures ∙ (c.in-Some-Resource.is ∙ ap Some c.in-Some-Resource.field-0-is)) ranges
