-- The items before those that are left are printed, and these can be.
use Rattle.std.proofs.Common.{◌≡◌, true}
use Rattle.std.specs.{Prelude.codes, List.list_all}
use Rattle.print_uses.specs.Printable.{is_printable_entry, entry_calls}
use Rattle.print_items.proofs.Moves.{Underway}
use Rattle.print_packages.proofs.items.print_exports.Given as goal

abbrev pub invariant-loop-key : goal.invariant-loop-key
invariant-loop-key g l = record {
  underway : Underway g.O.Output.keeps (entry_calls l.emits_docs l.resolve l.here (codes "export")) l.items.entries l.key-iterator (g.O.Output.view l.fn.output) (g.O.Output.view l.output);
  printable : list_all (is_printable_entry l.resolve l.here) l.key-iterator ≡ true;
}
