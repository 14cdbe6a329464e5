use Rattle.std.proofs.Common.{map, refl}
use Rattle.read_rules.specs.{Scopes.numbered_instance, Sights.numbered_sight}
use Rattle.read_exports.proofs.WalkLaws.{all_mapped, one_mapped}
use Rattle.plan_package.specs.Views.{whole_view}
use Rattle.plan_package.proofs.views.add_instances.Goals as goal

pub loop-instance-preserved : goal.loop-instance-preserved
loop-instance-preserved c = one_mapped numbered_instance whole_view c.args.instances.now c.loop-instance.instance-index (map numbered_sight c.loop-instance.views.items) c.loop-instance.invariant _
    c.loop-instance-test.true numbered_sight c.loop-instance.views.items _ c.push.new.self.items refl refl c.in_ok-push.ensures.items

pub returns : goal.returns
returns c = all_mapped numbered_instance whole_view c.args.instances.now c.loop-instance.instance-index (map numbered_sight c.loop-instance.views.items) c.loop-instance.invariant
    c.loop-instance-test.false
