use Rattle.comp_read.proofs.Whole.{package_views_obey}
use Rattle.comp_read.proofs.laws.package_views_obey.Goals as goal

pub returns : goal.returns
returns c = package_views_obey
