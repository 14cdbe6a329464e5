use Rattle.std.proofs.{Common.subst, Common.map, Common.List, lemmas.List.take_all}
use Rattle.wit_model.specs.declared.model.Param.{Param}
use Rattle.encode_types.specs.Plan.{AllInRange}
use Rattle.wit_encode.proofs.Tables.{more-in_range, none-in_range}
use Rattle.wit_component_tests.proofs.table_calls.are_in_range.Goals as goal

pub loop-param-init : goal.loop-param-init
loop-param-init c = none-in_range c.args.resolve.now

pub loop-param-preserved : goal.loop-param-preserved
loop-param-preserved c = more-in_range c.args.resolve.now c.args.params.now c.loop-param.param-index c.param-item.result c.loop-param-test.true c.param-item.is c.loop-param.invariant
    (c.is_in_range.ensures c.if-not-is_in_range.false)

pub returns : goal.returns
returns c = λ _. subst (λ (ps : List Param). AllInRange c.args.resolve.now (map (λ p. p.ty) ps)) (take_all c.loop-param.param-index c.args.params.now c.loop-param-test.false) c.loop-param.invariant
