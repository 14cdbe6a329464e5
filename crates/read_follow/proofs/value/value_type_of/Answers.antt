use Rattle.std.proofs.Common.{◌∙◌, ap, sym, Some, None}
use Rattle.comp_bytes.specs.Reading.{value_type_at, type_index_at}
use Rattle.read_follow.proofs.{ValueLaws.no_value, ValueLaws.value_primitive, ValueLaws.value_index, Refusing.refused}
use Rattle.read_follow.proofs.value.value_type_of.Goals as goal

pub returns-in_default : goal.returns-in_default
returns-in_default c = no_value c.args.bytes.now c.in_default.ensures.cases

pub returns-in-Some-primitive_of : goal.returns-in-Some-primitive_of
returns-in-Some-primitive_of c = ap value_type_at c.in-Some.ensures.cases.0 ∙ value_primitive c.in-Some.first.now c.in-Some.rest.now c.in-Some-primitive_of.primitive
    (sym c.primitive_of.ensures ∙ c.in-Some-primitive_of.is)

pub returns-in-Ok : goal.returns-in-Ok
returns-in-Ok c = value_index c.args.bytes.now c.in-Some.first.now c.in-Some.rest.now (Some (c.in-Ok.index, c.in-Ok.rest.now)) c.in-Some.ensures.cases.0 (sym c.primitive_of.ensures ∙ c.in-None.is)
    c.in-Ok.ensures

pub returns-in-Err : goal.returns-in-Err
returns-in-Err c = refused c.in-Err.refusal (type_index_at c.args.bytes.now) (value_type_at c.args.bytes.now)
    (value_index c.args.bytes.now c.in-Some.first.now c.in-Some.rest.now None c.in-Some.ensures.cases.0 (sym c.primitive_of.ensures ∙ c.in-None.is)) c.in-Err.ensures
