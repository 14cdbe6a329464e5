use Rattle.wit_model.specs.declared.model.Field.{Field}
use Rattle.encode_types.specs.Definition.{IsWrittenField}
use Rattle.encode_types.proofs.Written.{ready-of}
use Rattle.encode_types.proofs.definition.fields_in.Goals as goal
use Rattle.wit_model.proofs.Elements.{zip-more}

pub value_in-value-requires : goal.value_in-value-requires
value_in-value-requires c = ready-of c.args.maps.now (λ (x : Field). x.ty) c.args.fields.now c.loop-field.field-index c.field-item.result c.requires c.loop-field-test.true c.field-item.is

pub loop-field-preserved : goal.loop-field-preserved
loop-field-preserved c = rw c.in_ok-push.ensures.items (zip-more (IsWrittenField c.args.maps.now) c.loop-field.all.items c.args.fields.now c.loop-field.field-index _ c.field-item.result
    c.loop-field-test.true c.field-item.is c.loop-field.invariant (c.as_str.ensures.value, c.value_in-value.ensures))
