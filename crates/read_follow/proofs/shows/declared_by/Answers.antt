use Rattle.std.proofs.Common.{◌∙◌, ap, sym, Some}
use Rattle.comp_meaning.specs.Follow.{named_type}
use Rattle.read_follow.specs.Slots.{slot_in, slots_in}
use Rattle.read_follow.proofs.ShowLaws.{by_slot, equal_to_none, equal_to_nothing, equal_to_resource, equal_to_value}
use Rattle.read_follow.proofs.SlotLaws.{name_below, part_below}
use Rattle.read_follow.proofs.shows.declared_by.Goals as goal

pub returns-in-Some-Value-clause-range : goal.returns-in-Some-Value-clause-range
returns-in-Some-Value-clause-range c = λ n ranges. part_below n c.args.slots.now c.in-TypeEq.n c.in-Some-Value.part
    (sym c.slot_at.ensures ∙ (c.in-Some-Value.is ∙ ap Some c.in-Some-Value.field-0-is)) ranges

pub returns-in-Some-Resource-clause-range : goal.returns-in-Some-Resource-clause-range
returns-in-Some-Resource-clause-range c = λ n ranges. name_below n c.args.slots.now c.in-TypeEq.n c.in-Some-Resource.part
    (sym c.slot_at.ensures ∙ (c.in-Some-Resource.is ∙ ap Some c.in-Some-Resource.field-0-is)) ranges

pub returns-in-Some-Value-clause-found : goal.returns-in-Some-Value-clause-found
returns-in-Some-Value-clause-found c = λ T F place name named. ap (named_type (slots_in T F c.args.slots.now) place name) c.in-TypeEq.is
    ∙ equal_to_value c.args.slots.now c.in-TypeEq.n T F place name c.in-Some-Value.part (sym c.slot_at.ensures ∙ (c.in-Some-Value.is ∙ ap Some c.in-Some-Value.field-0-is))

pub returns-in-Some-Resource-clause-found : goal.returns-in-Some-Resource-clause-found
returns-in-Some-Resource-clause-found c = λ T F place name named. ap (named_type (slots_in T F c.args.slots.now) place name) c.in-TypeEq.is
    ∙ equal_to_resource c.args.slots.now c.in-TypeEq.n T F place name c.in-Some-Resource.part (sym c.slot_at.ensures ∙ (c.in-Some-Resource.is ∙ ap Some c.in-Some-Resource.field-0-is)) named

pub returns-in-Some-Function-clause-found : goal.returns-in-Some-Function-clause-found
returns-in-Some-Function-clause-found c = λ T F place name named. ap (named_type (slots_in T F c.args.slots.now) place name) c.in-TypeEq.is
    ∙ equal_to_none c.args.slots.now c.in-TypeEq.n T F place name c.in-Some-Function.field-0 (sym c.slot_at.ensures ∙ c.in-Some-Function.is)
    (ap (λ s. by_slot place name (Some (slot_in T F s))) c.in-Some-Function.field-0-is)

pub returns-in-Some-Instance-clause-found : goal.returns-in-Some-Instance-clause-found
returns-in-Some-Instance-clause-found c = λ T F place name named. ap (named_type (slots_in T F c.args.slots.now) place name) c.in-TypeEq.is
    ∙ equal_to_none c.args.slots.now c.in-TypeEq.n T F place name c.in-Some-Instance.field-0 (sym c.slot_at.ensures ∙ c.in-Some-Instance.is)
    (ap (λ s. by_slot place name (Some (slot_in T F s))) c.in-Some-Instance.field-0-is)

pub returns-in-None-clause-found : goal.returns-in-None-clause-found
returns-in-None-clause-found c = λ T F place name named. ap (named_type (slots_in T F c.args.slots.now) place name) c.in-TypeEq.is ∙ equal_to_nothing c.args.slots.now c.in-TypeEq.n T F place name
    (sym c.slot_at.ensures ∙ c.in-None.is)
