use Rattle.comp_read.proofs.ReadPackages.{read_packages_have_sources}
use Rattle.comp_read.proofs.laws.read_packages_have_sources.Goals as goal

pub returns : goal.returns
returns c = read_packages_have_sources
