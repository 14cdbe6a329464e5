use Rattle.read_homes.proofs.HomeLaws.{home_reason}
use Rattle.read_homes.proofs.homes.home_at.Goals as goal

pub returns-in-Some-clause-reason : goal.returns-in-Some-clause-reason
returns-in-Some-clause-reason c = home_reason c.args.packages.now c.add.new.self c.add.ensures.packages c.in-Some.path.now c.add.result c.add.ensures.reads c.add.ensures.takes
