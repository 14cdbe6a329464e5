use Rattle.print_grammar.proofs.FileReads.{file_reads_only}
use Rattle.print_grammar.proofs.laws.well_named_file_reads.Goals as goal

pub returns : goal.returns
returns c = file_reads_only
