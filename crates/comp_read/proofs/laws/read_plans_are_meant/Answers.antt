use Rattle.comp_read.proofs.ReadPackages.{read_plans_are_meant}
use Rattle.comp_read.proofs.laws.read_plans_are_meant.Goals as goal

pub returns : goal.returns
returns c = read_plans_are_meant
