use Rattle.comp_read.proofs.ReadPackages.{read_package_is_whole}
use Rattle.comp_read.proofs.laws.read_package_is_whole.Goals as goal

pub returns : goal.returns
returns c = read_package_is_whole
