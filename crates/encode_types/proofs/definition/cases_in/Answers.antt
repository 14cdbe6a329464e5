use Rattle.wit_model.specs.declared.model.Case.{Case}
use Rattle.encode_types.specs.Definition.{IsWrittenCase}
use Rattle.encode_types.proofs.Written.{ready-given}
use Rattle.encode_types.proofs.definition.cases_in.Goals as goal
use Rattle.wit_model.proofs.Elements.{zip-more}

pub optional_in-value-requires : goal.optional_in-value-requires
optional_in-value-requires c = ready-given c.args.maps.now (λ (x : Case). x.ty) c.args.cases.now c.loop-case.case-index c.case-item.result c.requires c.loop-case-test.true c.case-item.is

pub loop-case-preserved : goal.loop-case-preserved
loop-case-preserved c = rw c.in_ok-push.ensures.items (zip-more (IsWrittenCase c.args.maps.now) c.loop-case.all.items c.args.cases.now c.loop-case.case-index _ c.case-item.result c.loop-case-test.true
    c.case-item.is c.loop-case.invariant (c.as_str.ensures.value, c.optional_in-value.ensures))
