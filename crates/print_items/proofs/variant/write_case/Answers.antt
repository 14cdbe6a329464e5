use Rattle.std.specs.List.{list_all}
use Rattle.wit_model.specs.{Names.is_label, Text.text_of}
use Rattle.print_output.specs.OutputCall.{is_one_line}
use Rattle.print_items.specs.Shown.{shown_docs}
use Rattle.base_lemmas.proofs.Bools.{right_of}
use Rattle.print_items.proofs.variant.write_case.Goals as goal

pub write_payload-requires-clause-well : goal.write_payload-requires-clause-well
write_payload-requires-clause-well g c = right_of (is_label (text_of c.args.case.now.name)) _ (right_of (list_all is_one_line (shown_docs c.args.case.now.docs)) _ c.requires.well)
