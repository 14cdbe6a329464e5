-- The functions before those that are left are printed, and these can be.
use Rattle.std.proofs.Common.{◌≡◌, true}
use Rattle.std.specs.List.{list_all}
use Rattle.print_grammar.specs.Calls.{members_calls}
use Rattle.print_uses.specs.Printable.{is_printable_function, shown_functions}
use Rattle.print_items.proofs.Moves.{Going}
use Rattle.print_packages.proofs.interface.print_functions.Given as goal

abbrev pub invariant-loop-key : goal.invariant-loop-key
invariant-loop-key g l = record {
  going : Going g.O.Output.keeps (members_calls l.emits_docs l.has_printed (shown_functions l.resolve l.key-iterator))
      (members_calls l.emits_docs l.fn.has_printed (shown_functions l.resolve l.functions.entries)) (g.O.Output.view l.fn.output) (g.O.Output.view l.output);
  printable : list_all (λ entry. is_printable_function l.resolve entry.1) l.key-iterator ≡ true;
}
