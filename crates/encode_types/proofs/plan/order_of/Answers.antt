use Rattle.std.proofs.{Common.[], Common.refl, lemmas.List.Elements.Contains-get_or}
use Rattle.encode_types.proofs.Planning.{planned-none, planned-step, order-done}
use Rattle.wit_model.specs.declared.model.«Type».TheVariants as ty
use Rattle.encode_types.proofs.plan.order_of.Goals as goal

pub loop-ty-init : goal.loop-ty-init
loop-ty-init c = planned-none c.args.resolve.now c.args.own c.args.maps.now c.new-order.result c.args.types.now c.new-order.ensures.numbers c.new-order.ensures.met

pub plan-requires-clause-in_range : goal.plan-requires-clause-in_range
plan-requires-clause-in_range c = c.requires.in_range _ (Contains-get_or _ _ ty.Bool c.loop-ty-test.true)

pub loop-ty-preserved : goal.loop-ty-preserved
loop-ty-preserved c = planned-step c.args.resolve.now c.args.own c.args.maps.now [] c.args.types.now c.loop-ty.ty-index c.loop-ty.order c.plan.new.order ty.Bool c.loop-ty-test.true c.loop-ty.invariant
    c.in_ok-plan.ensures

pub returns : goal.returns
returns c = order-done c.args.resolve.now c.args.own c.args.maps.now [] c.loop-ty.order.numbers.items c.loop-ty.order c.args.types.now c.loop-ty.ty-index refl refl c.loop-ty-test.false
    c.loop-ty.invariant
