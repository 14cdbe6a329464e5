use Rattle.std.proofs.Common.{subst}
use Rattle.read_homes.specs.Homes.{IsLabelled}
use Rattle.read_members.proofs.ReadLaws.{labelled_added}
use Rattle.read_members.proofs.reading.read_world.Goals as goal

pub returns-then-branch-clause-reason : goal.returns-then-branch-clause-reason
returns-then-branch-clause-reason c = labelled_added c.args.packages.now c.add_labelled.new.self c.in_ok-package_number.ensures.packages c.args.label.now c.args.path.now
    c.in_ok-package_number.ensures.takes c.in-Some.package_number (subst (IsLabelled c.add_labelled.new.self c.args.label.now c.args.path.now) c.in-Some.is c.in_ok-package_number.ensures.reads)
