use Rattle.text_shown.proofs.Packages.{packages_printed}
use Rattle.text_shown.proofs.laws.packages_are_shown.Goals as goal

pub returns : goal.returns
returns c = λ r valid files mains k id p at. packages_printed r valid files mains k id p at
