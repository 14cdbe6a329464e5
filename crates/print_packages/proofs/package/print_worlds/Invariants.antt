-- The worlds before those that are left are printed, and these can be.
use Rattle.std.proofs.Common.{◌≡◌, true}
use Rattle.std.specs.List.{list_all}
use Rattle.print_uses.specs.Printable.{is_printable_listed, listed_calls}
use Rattle.print_items.proofs.Moves.{Underway}
use Rattle.print_packages.proofs.package.print_worlds.Given as goal

abbrev pub invariant-loop-name : goal.invariant-loop-name
invariant-loop-name g l = record {
  underway : Underway g.O.Output.keeps (listed_calls l.emits_docs l.resolve) l.worlds.entries l.name-iterator (g.O.Output.view l.fn.output) (g.O.Output.view l.output);
  printable : list_all (is_printable_listed l.resolve l.here) l.name-iterator ≡ true;
}
