use Rattle.read_rules.specs.Scopes.{numbered_instance}
use Rattle.plan_types.proofs.OrderLaws.{all_joined, one_joined}
use Rattle.plan_types.proofs.orders.add_instances.Goals as goal

pub loop-instance-preserved : goal.loop-instance-preserved
loop-instance-preserved c = one_joined numbered_instance (λ i. i.place) c.args.instances.now c.loop-instance.instance-index _ c.loop-instance-test.true c.loop-instance.places.keys _
    c.loop-instance.invariant c.add_place.new.places.keys c.in_ok-add_place.ensures

pub returns : goal.returns
returns c = all_joined numbered_instance (λ i. i.place) c.args.instances.now c.loop-instance.instance-index c.loop-instance-test.false c.loop-instance.places.keys _ c.loop-instance.invariant
