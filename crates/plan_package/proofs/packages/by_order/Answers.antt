use Rattle.std.proofs.Common.{refl}
use Rattle.plan_package.specs.{WholePackages.numbered_world, WholeWorlds.labelled}
use Rattle.plan_package.proofs.PackageLaws.{all_numbered, one_numbered}
use Rattle.plan_package.proofs.packages.by_order.Goals as goal

pub loop-number-preserved : goal.loop-number-preserved
loop-number-preserved c = one_numbered labelled numbered_world c.args.worlds.now c.loop-number.number c.loop-number.all.items c.loop-number.invariant _ c.loop-number-test.true _ c.push.new.self.items
    c.in_ok-push.ensures.items refl c.in_ok-world_id.ensures

pub returns : goal.returns
returns c = all_numbered labelled numbered_world c.args.worlds.now c.loop-number.number c.loop-number.all.items c.loop-number.invariant c.loop-number-test.false
