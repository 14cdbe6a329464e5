use Rattle.std.proofs.Common.{◌≡◌, ◌++◌, map, drop}
use Rattle.std.specs.List.{flat_map}
use Rattle.plan_meaning.specs.NumberedWorlds.{sights_of_instance}
use Rattle.read_rules.specs.{Scopes.numbered_instance, Sights.numbered_sight, Tables.numbered_tables}
use Rattle.read_rules.proofs.sights.add_sights.Given as goal

-- those that were added, and those of the instances that are left, are all
abbrev pub invariant-loop-instance : goal.invariant-loop-instance
invariant-loop-instance l = map numbered_sight l.sights.items ++ flat_map (λ i. sights_of_instance (numbered_tables l.tables) (numbered_instance i)) (drop l.instance-index l.instances)
    ≡ map numbered_sight l.initial.sights.items ++ flat_map (sights_of_instance (numbered_tables l.tables)) (map numbered_instance l.instances)
