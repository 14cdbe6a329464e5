use Rattle.std.proofs.Common.{◌≡◌, map, drop}
use Rattle.read_rules.specs.Scopes.{numbered_instance}
use Rattle.plan_types.specs.Orders.{joined_all}
use Rattle.plan_types.proofs.orders.add_instances.Given as goal

-- those so far, with those that are left, are all
abbrev pub invariant-loop-instance : goal.invariant-loop-instance
invariant-loop-instance l = joined_all l.places.keys (map (λ i. i.place) (drop l.instance-index (map numbered_instance l.instances))) ≡ joined_all l.initial.places.keys
    (map (λ i. i.place) (map numbered_instance l.instances))
