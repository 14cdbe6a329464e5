-- The items before those that are left are printed, and these can be.
use Rattle.std.proofs.Common.{◌≡◌, true}
use Rattle.std.specs.List.{list_all}
use Rattle.print_uses.specs.Printable.{is_printable_import, function_entry_calls}
use Rattle.print_items.proofs.Moves.{Underway}
use Rattle.print_packages.proofs.items.print_imported_functions.Given as goal

abbrev pub invariant-loop-key : goal.invariant-loop-key
invariant-loop-key g l = record {
  underway : Underway g.O.Output.keeps (function_entry_calls l.emits_docs l.resolve l.here) l.items.entries l.key-iterator (g.O.Output.view l.fn.output) (g.O.Output.view l.output);
  printable : list_all (is_printable_import l.resolve l.here) l.key-iterator ≡ true;
}
