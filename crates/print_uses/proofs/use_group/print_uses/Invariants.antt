-- The uses before the types that are left are printed.
use Rattle.std.proofs.Common.{◌≡◌, ◌||◌, None, drop, filter_map, true}
use Rattle.std.specs.{Prelude.is_some, Prelude.option_map, List.list_all}
use Rattle.wit_model.specs.Rules.{has_items, passes}
use Rattle.print_items.specs.Shown.{shown_path}
use Rattle.print_uses.specs.UseGroups.{is_listed_type, is_printable_use, listed_of, listed_use, shown_use, uses_calls}
use Rattle.print_items.proofs.Moves.{Going}
use Rattle.print_uses.proofs.use_group.print_uses.Given as goal

abbrev pub invariant-loop-listed : goal.invariant-loop-listed
invariant-loop-listed g l = record {
  going : Going g.O.Output.keeps (uses_calls (shown_path l.resolve l.here) (option_map shown_use l.last) (filter_map (listed_use l.resolve l.owner) (listed_of (drop l.listed-index l.types))))
      (uses_calls (shown_path l.resolve l.here) None (filter_map (listed_use l.resolve l.owner) (listed_of l.types))) (g.O.Output.view l.fn.output) (g.O.Output.view l.output);
  printed : (is_some (option_map shown_use l.last) || has_items (filter_map (listed_use l.resolve l.owner) (listed_of (drop l.listed-index l.types)))) ≡ has_items
      (filter_map (listed_use l.resolve l.owner) (listed_of l.types));
  known : list_all (is_listed_type l.resolve l.owner) (listed_of (drop l.listed-index l.types)) ≡ true;
  printable : passes (is_printable_use l.resolve l.here) l.last ≡ true;
}
