use Rattle.std.proofs.Common.{◌∙◌, ap, map, option_map, sym}
use Rattle.read_homes.specs.Homes.{identity_of}
use Rattle.plan_package.specs.WholePackages.{numbered_interface, another}
use Rattle.read_exports.proofs.WalkLaws.{none_left}
use Rattle.plan_package.proofs.PackageLaws.{in_list, main_planned}
use Rattle.plan_package.proofs.packages.package_at.Goals as goal

pub unreachable-requires : goal.unreachable-requires
unreachable-requires c = in_list identity_of c.texts.result c.args.packages.now c.args.number c.texts.ensures c.requires.there (none_left c.texts.result c.in_default.not-Some)

pub returns-then-number-main : goal.returns-then-number-main
returns-then-number-main c = main_planned c.args.packages.now c.args.main c.args.places.now.keys c.args.members.now (map numbered_interface c.args.interfaces.items) c.args.number c.main_package.result
    (identity_of c.in-Some.texts) c.if-number-main.true (sym c.texts.ensures ∙ ap (option_map identity_of) c.in-Some.is) c.main_package.ensures

pub returns : goal.returns
returns c = another (identity_of c.in-Some.texts) c.if-number-main.false (sym c.texts.ensures ∙ ap (option_map identity_of) c.in-Some.is) c.foreign_package.ensures
