use Rattle.text_trees.proofs.PrintedTexts.{printed_files_are_found}
use Rattle.text_trees.proofs.laws.printed_files_are_found.Goals as goal

pub returns : goal.returns
returns c = printed_files_are_found c.printed_texts_are_read.ensures c.well_named_file_reads.ensures
