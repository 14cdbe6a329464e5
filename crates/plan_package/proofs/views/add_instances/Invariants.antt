use Rattle.std.proofs.Common.{◌≡◌, ◌++◌, map, drop}
use Rattle.read_rules.specs.{Scopes.numbered_instance, Sights.numbered_sight}
use Rattle.plan_package.specs.Views.{whole_view}
use Rattle.plan_package.proofs.views.add_instances.Given as goal

-- those that were added, and those that are left, are all
abbrev pub invariant-loop-instance : goal.invariant-loop-instance
invariant-loop-instance l = map numbered_sight l.views.items ++ map whole_view (drop l.instance-index (map numbered_instance l.instances)) ≡ map numbered_sight l.initial.views.items ++ map whole_view
    (map numbered_instance l.instances)
