use Rattle.std.proofs.{Common.sym, Common.◌==◌, lemmas.List.Folds.list_all-map}
use Rattle.read_exports.specs.Members.{numbered_member}
use Rattle.read_exports.proofs.packages.have_package.Goals as goal

pub loop-member-init : goal.loop-member-init
loop-member-init c = sym (list_all-map (λ m. c.args.package_number == m.package_) numbered_member c.args.members.now)
