use Rattle.encode_shown.proofs.Packages.{members-mean}
use Rattle.encode_shown.proofs.laws.packages_are_meant.Goals as goal

pub returns : goal.returns
returns c = λ r n p members v at shows some. members-mean r v n p at members shows some
