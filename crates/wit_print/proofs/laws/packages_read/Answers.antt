use Rattle.print_packages.proofs.ValidFiles.{packages_read}
use Rattle.wit_print.proofs.laws.packages_read.Goals as goal

pub returns : goal.returns
returns c = λ docs r main nested can. packages_read docs r main nested can.valid can.in_range can.nested_
