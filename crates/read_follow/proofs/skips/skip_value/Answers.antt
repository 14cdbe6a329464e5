use Rattle.std.proofs.Common.{ap, ◌∙◌, sym, Some, None}
use Rattle.comp_bytes.specs.Reading.{type_index_at, value_type_at}
use Rattle.read_follow.specs.Bodies.{behind}
use Rattle.read_follow.proofs.{Refusing.refused, ValueLaws.no_value, ValueLaws.value_primitive, ValueLaws.value_index}
use Rattle.read_follow.proofs.skips.skip_value.Goals as goal

pub returns-in_default : goal.returns-in_default
returns-in_default c = ap behind (no_value c.args.bytes.now c.in_default.ensures.cases)

pub returns-in-Some-primitive_of : goal.returns-in-Some-primitive_of
returns-in-Some-primitive_of c = ap behind (ap value_type_at c.in-Some.ensures.cases.0 ∙ value_primitive c.in-Some.first.now c.in-Some.rest.now c.in-Some-primitive_of._primitive
    (sym c.primitive_of.ensures ∙ c.in-Some-primitive_of.is))

pub returns-in-Ok : goal.returns-in-Ok
returns-in-Ok c = ap behind (value_index c.args.bytes.now c.in-Some.first.now c.in-Some.rest.now (Some (c.in-Ok._index, c.in-Ok.rest.now)) c.in-Some.ensures.cases.0
    (sym c.primitive_of.ensures ∙ c.in-None.is) c.in-Ok.ensures)

pub returns-in-Err : goal.returns-in-Err
returns-in-Err c = refused c.in-Err.refusal (type_index_at c.args.bytes.now) (behind (value_type_at c.args.bytes.now))
    (λ e. ap behind (value_index c.args.bytes.now c.in-Some.first.now c.in-Some.rest.now None c.in-Some.ensures.cases.0 (sym c.primitive_of.ensures ∙ c.in-None.is) e)) c.in-Err.ensures
