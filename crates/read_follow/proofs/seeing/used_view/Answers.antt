use Rattle.std.proofs.Common.{◌∙◌, ap, sym, Some}
use Rattle.read_follow.specs.InstanceScopes.{tables_of}
use Rattle.read_follow.proofs.UsedLaws.{any_turned, no_function, no_resource, no_value, none_shown, nothing, used_shown}
use Rattle.read_follow.proofs.seeing.used_view.Goals as goal

pub returns-in-Some-Instance-clause-shown : goal.returns-in-Some-Instance-clause-shown
returns-in-Some-Instance-clause-shown c = used_shown c.args.marks.now c.args.here (tables_of c.args.table.now c.args.functions.now) c.args.slots.now c.args.used.now.keys c.args.n
    c.in-Some-Instance.body c.in-Some-Instance.around (tables_of c.follow_instance.new.table c.follow_instance.new.functions) c.follow_instance.result _ c.first_of-outer.ensures
    (sym (any_turned c.args.n c.args.used.now.keys) ∙ (sym c.contains.ensures ∙ c.if-contains.false)) (sym c.slot_at.ensures ∙ (c.in-Some-Instance.is ∙ ap Some c.in-Some-Instance.field-0-is))
    c.follow_instance.ensures.shown

pub returns-in-Some-Instance-clause-absent : goal.returns-in-Some-Instance-clause-absent
returns-in-Some-Instance-clause-absent c =
    none_shown c.args.marks.now c.args.here (tables_of c.args.table.now c.args.functions.now) c.args.slots.now c.args.used.now.keys c.args.n c.in-Some-Instance.body c.in-Some-Instance.around
    c.follow_instance.result _ c.first_of-outer.ensures (sym c.slot_at.ensures ∙ (c.in-Some-Instance.is ∙ ap Some c.in-Some-Instance.field-0-is)) c.follow_instance.ensures.absent

pub returns-in-Some-Value-clause-absent : goal.returns-in-Some-Value-clause-absent
returns-in-Some-Value-clause-absent c = λ place marked. no_value c.args.marks.now c.args.here (tables_of c.args.table.now c.args.functions.now) c.args.slots.now c.args.used.now.keys c.args.n place
    c.in-Some-Value.field-0-0 c.in-Some-Value.field-0 (sym c.slot_at.ensures ∙ c.in-Some-Value.is) c.in-Some-Value.field-0-is

pub returns-in-Some-Function-clause-absent : goal.returns-in-Some-Function-clause-absent
returns-in-Some-Function-clause-absent c = λ place marked. no_function c.args.marks.now c.args.here (tables_of c.args.table.now c.args.functions.now) c.args.slots.now c.args.used.now.keys c.args.n
    place c.in-Some-Function.field-0-0 c.in-Some-Function.field-0 (sym c.slot_at.ensures ∙ c.in-Some-Function.is) c.in-Some-Function.field-0-is

pub returns-in-Some-Resource-clause-absent : goal.returns-in-Some-Resource-clause-absent
returns-in-Some-Resource-clause-absent c = λ place marked. no_resource c.args.marks.now c.args.here (tables_of c.args.table.now c.args.functions.now) c.args.slots.now c.args.used.now.keys c.args.n
    place c.requires.tables.table c.requires.slots c.in-Some-Resource.field-0-0 c.in-Some-Resource.field-0 (sym c.slot_at.ensures ∙ c.in-Some-Resource.is) c.in-Some-Resource.field-0-is

pub returns-in-None-clause-absent : goal.returns-in-None-clause-absent
returns-in-None-clause-absent c = λ place marked.
    nothing c.args.marks.now c.args.here (tables_of c.args.table.now c.args.functions.now) c.args.slots.now c.args.used.now.keys c.args.n place (sym c.slot_at.ensures ∙ c.in-None.is)
