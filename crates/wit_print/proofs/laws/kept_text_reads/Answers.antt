use Rattle.print_packages.proofs.ValidFiles.{kept_text_reads}
use Rattle.wit_print.proofs.laws.kept_text_reads.Goals as goal

pub returns : goal.returns
returns c = λ docs r main nested can. kept_text_reads docs r main nested can.valid can.in_range can.nested_
