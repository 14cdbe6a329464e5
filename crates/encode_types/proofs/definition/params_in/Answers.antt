use Rattle.wit_model.specs.declared.model.Param.{Param}
use Rattle.encode_types.specs.Definition.{IsWrittenParam}
use Rattle.encode_types.proofs.Written.{ready-of}
use Rattle.encode_types.proofs.definition.params_in.Goals as goal
use Rattle.wit_model.proofs.Elements.{zip-more}

pub value_in-value-requires : goal.value_in-value-requires
value_in-value-requires c = ready-of c.args.maps.now (λ (x : Param). x.ty) c.args.params.now c.loop-param.param-index c.param-item.result c.requires c.loop-param-test.true c.param-item.is

pub loop-param-preserved : goal.loop-param-preserved
loop-param-preserved c = rw c.in_ok-push.ensures.items (zip-more (IsWrittenParam c.args.maps.now) c.loop-param.all.items c.args.params.now c.loop-param.param-index _ c.param-item.result
    c.loop-param-test.true c.param-item.is c.loop-param.invariant (c.as_str.ensures.value, c.value_in-value.ensures))
