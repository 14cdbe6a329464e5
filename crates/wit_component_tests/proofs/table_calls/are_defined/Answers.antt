use Rattle.std.proofs.{Common.subst, Common.map, Common.List, lemmas.List.take_all}
use Rattle.wit_model.specs.declared.model.Param.{Param}
use Rattle.encode_types.specs.Table.{AllDefined}
use Rattle.wit_encode.proofs.Tables.{more-defined, none-defined}
use Rattle.wit_component_tests.proofs.table_calls.are_defined.Goals as goal

pub loop-param-init : goal.loop-param-init
loop-param-init c = none-defined c.args.resolve.now

pub loop-param-preserved : goal.loop-param-preserved
loop-param-preserved c = more-defined c.args.resolve.now c.args.params.now c.loop-param.param-index c.param-item.result c.loop-param-test.true c.param-item.is c.loop-param.invariant
    (c.is_defined.ensures c.if-not-is_defined.false)

pub returns : goal.returns
returns c = λ _. subst (λ (ps : List Param). AllDefined c.args.resolve.now (map (λ p. p.ty) ps)) (take_all c.loop-param.param-index c.args.params.now c.loop-param-test.false) c.loop-param.invariant
