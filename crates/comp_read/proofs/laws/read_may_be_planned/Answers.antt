use Rattle.comp_read.proofs.ReadPackages.{read_may_be_planned}
use Rattle.comp_read.proofs.laws.read_may_be_planned.Goals as goal

pub returns : goal.returns
returns c = read_may_be_planned
