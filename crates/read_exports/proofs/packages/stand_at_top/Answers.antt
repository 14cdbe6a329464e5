use Rattle.std.proofs.{Common.sym, lemmas.List.Folds.list_all-map}
use Rattle.read_rules.specs.Sights.{numbered_sight}
use Rattle.read_exports.specs.Members.{homes_alone, stands_among}
use Rattle.read_exports.proofs.packages.stand_at_top.Goals as goal

pub loop-sight-init : goal.loop-sight-init
loop-sight-init c = sym (list_all-map (stands_among (homes_alone c.args.homes.now) c.args.package_number c.args.places.now.keys) numbered_sight c.args.sights.now)
