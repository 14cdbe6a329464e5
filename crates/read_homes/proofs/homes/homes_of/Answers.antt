use Rattle.read_homes.proofs.{HomeLaws.all_homes, HomeLaws.more_homes, HomeLaws.more_in_order, HomeLaws.more_reasons, PackageLaws.grows_on}
use Rattle.read_homes.proofs.homes.homes_of.Goals as goal

pub loop-path-preserved : goal.loop-path-preserved
loop-path-preserved c =
    let first = c.args.packages.now in
    let old = c.loop-path.packages in
    let new = c.home_at.new.packages in
    let before = c.loop-path.invariant in
    let is = c.in_ok-home.ensures in
    record {
      homes = more_homes old new is.grows c.args.paths.now c.loop-path.path-index _ c.loop-path-test.true c.loop-path.homes.items c.in_ok-home.home c.push.new.self.items c.in_ok-push.ensures.items
          before.homes is.home;
      grows = grows_on first old new before.grows is.grows;
      packages = is.packages;
      reasons = more_reasons first old new c.loop-path.homes.items c.in_ok-home.home c.push.new.self.items c.in_ok-push.ensures.items before.reasons is.reason;
      order = more_in_order first old new _ c.loop-path.homes.items c.in_ok-home.home c.push.new.self.items c.in_ok-push.ensures.items is.home before.reasons is.reason before.order;
      keeps = λ t homes stand. is.homes t homes (before.keeps t homes stand);
    }

pub returns-clause-stand : goal.returns-clause-stand
returns-clause-stand c = λ t same are. all_homes t c.loop-path.packages c.loop-path.invariant.packages c.args.paths.now c.loop-path.path-index c.loop-path-test.false c.loop-path.homes.items
    c.loop-path.invariant.homes same are
