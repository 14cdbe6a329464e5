-- The types before those that are left are printed, and these can be.
use Rattle.std.proofs.Common.{◌≡◌, drop, true}
use Rattle.std.specs.List.{list_all}
use Rattle.print_grammar.specs.Calls.{members_calls, printed_after}
use Rattle.print_uses.specs.UseGroups.{is_listed_type, listed_of}
use Rattle.print_packages.specs.GivenTypes.{given_declarations}
use Rattle.print_items.proofs.Moves.{Going}
use Rattle.print_packages.proofs.declaration.print_declarations.Given as goal

abbrev pub invariant-loop-listed : goal.invariant-loop-listed
invariant-loop-listed g l = record {
  going : Going g.O.Output.keeps (members_calls l.emits_docs l.has_printed (given_declarations l.resolve l.owner l.functions.entries (listed_of (drop l.listed-index l.types))))
      (members_calls l.emits_docs l.fn.has_printed (given_declarations l.resolve l.owner l.functions.entries (listed_of l.types))) (g.O.Output.view l.fn.output) (g.O.Output.view l.output);
  printed : printed_after l.has_printed (given_declarations l.resolve l.owner l.functions.entries (listed_of (drop l.listed-index l.types))) ≡ printed_after l.fn.has_printed
      (given_declarations l.resolve l.owner l.functions.entries (listed_of l.types));
  known : list_all (is_listed_type l.resolve l.owner) (listed_of (drop l.listed-index l.types)) ≡ true;
}
