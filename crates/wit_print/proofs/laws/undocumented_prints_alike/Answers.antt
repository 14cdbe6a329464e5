use Rattle.wit_print.proofs.AlikeFiles.{undocumented_packages_alike}
use Rattle.wit_print.proofs.laws.undocumented_prints_alike.Goals as goal

pub returns : goal.returns
returns c = λ a b alike main nested. undocumented_packages_alike a b main nested alike
