use Rattle.std.proofs.Common.{◌∙◌, append_assoc}
use Rattle.wit_model.specs.{Names.is_label, Text.text_of}
use Rattle.print_items.specs.Shown.{function_prefix}
use Rattle.print_grammar.specs.{Calls.line_after_calls, WellNamed.is_well_prefix}
use Rattle.print_packages.proofs.Functions.{function_alone}
use Rattle.print_items.proofs.Driven.{driven, driven_on}
use Rattle.base_lemmas.proofs.Bools.{left_of, right_of}
use Rattle.print_packages.proofs.interface.write_function.Goals as goal

pub write_prefix-requires : goal.write_prefix-requires
write_prefix-requires g c = record { well = left_of _ _ c.requires.well }

pub write_named-requires-clause-label : goal.write_named-requires-clause-label
write_named-requires-clause-label g c = rw c.deref.ensures (left_of _ _ (right_of (is_well_prefix (function_prefix c.args.function.now)) _ c.requires.well))

pub write_named-requires-clause-well : goal.write_named-requires-clause-well
write_named-requires-clause-well g c = right_of (is_label (text_of c.args.function.now.name)) _ (right_of (is_well_prefix (function_prefix c.args.function.now)) _ c.requires.well)

pub returns : goal.returns
returns g c = record {
  calls = driven_on (driven c.write_line_before.ensures.calls c.write_prefix.ensures.calls) (rw c.deref.ensures at c.write_named.ensures.calls)
      (append_assoc (line_after_calls c.args.has_printed) _ _ ∙ function_alone c.args.emits_docs c.args.has_printed c.args.resolve.now c.args.function.now);
}
