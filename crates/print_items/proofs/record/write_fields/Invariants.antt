-- Those so far are printed.
use Rattle.std.proofs.Common.{take}
use Rattle.std.specs.List.{flat_map}
use Rattle.print_items.specs.{Shown.shown_field, Drives.Drives}
use Rattle.print_grammar.specs.Calls.{field_calls}
use Rattle.print_items.proofs.record.write_fields.Given as goal

abbrev pub invariant-loop-field : goal.invariant-loop-field
invariant-loop-field g l = record {
  calls : Drives g.O.Output.view g.O.Output.keeps l.fn.driver (flat_map (λ x. field_calls l.emits_docs (shown_field l.resolve x)) (take l.field-index l.fields)) l.driver;
}
