-- Those so far are listed.
use Rattle.std.proofs.Common.{◌≡◌, ◌++◌, filter_map}
use Rattle.print_items.specs.Shown.{type_of_entry}
use Rattle.print_uses.specs.UseGroups.{listed_of}
use Rattle.print_packages.proofs.types.imported_types.Given as goal

abbrev pub invariant-loop-key : goal.invariant-loop-key
invariant-loop-key l = listed_of l.listed.items ++ filter_map (λ e. type_of_entry e.0 e.1) l.key-iterator ≡ filter_map (λ e. type_of_entry e.0 e.1) l.items.entries
