use Rattle.std.proofs.{Common.sym, Common.map, lemmas.List.Folds.list_all-map}
use Rattle.plan_meaning.specs.NumberedViews.{agrees_with_first}
use Rattle.read_rules.specs.Sights.{numbered_sight}
use Rattle.plan_parts.proofs.sights.each_agrees.Goals as goal

pub loop-sight-init : goal.loop-sight-init
loop-sight-init c = sym (list_all-map (agrees_with_first (map numbered_sight c.args.sights.now)) numbered_sight c.args.sights.now)
