use Rattle.std.proofs.Common.{ap, map, ◌++◌}
use Rattle.plan_meaning.specs.NumberedWorlds.{sights_of_instance}
use Rattle.read_rules.specs.{Scopes.numbered_instance, Sights.numbered_sight, Tables.numbered_tables}
use Rattle.read_rules.proofs.SightLaws.{all_added, one_added}
use Rattle.base_lemmas.proofs.Lists.{flat_mapped as along_map}
use Rattle.read_rules.proofs.sights.add_sights.Goals as goal

pub loop-instance-init : goal.loop-instance-init
loop-instance-init c = ap (λ l. map numbered_sight c.args.sights.now.items ++ l) (along_map (sights_of_instance (numbered_tables c.args.tables.now)) numbered_instance c.args.instances.now)

pub loop-instance-preserved : goal.loop-instance-preserved
loop-instance-preserved c = one_added (λ i. sights_of_instance (numbered_tables c.args.tables.now) (numbered_instance i)) c.args.instances.now c.loop-instance.instance-index
    (map numbered_sight c.loop-instance.sights.items) c.loop-instance.invariant _ c.loop-instance-test.true (map numbered_sight c.add_instance.new.sights.items) c.in_ok-add_instance.ensures

pub returns : goal.returns
returns c = all_added (λ i. sights_of_instance (numbered_tables c.args.tables.now) (numbered_instance i)) c.args.instances.now c.loop-instance.instance-index
    (map numbered_sight c.loop-instance.sights.items) c.loop-instance.invariant c.loop-instance-test.false
