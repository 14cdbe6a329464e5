-- Those so far are listed.
use Rattle.std.proofs.Common.{◌≡◌, ◌++◌, filter_map, map}
use Rattle.print_packages.proofs.types.imported_functions.Given as goal
use Rattle.wit_model.specs.Valid.{item_function}

abbrev pub invariant-loop-key : goal.invariant-loop-key
invariant-loop-key l = map (λ f. f.now) l.listed.items ++ filter_map (λ e. item_function e.1) l.key-iterator ≡ filter_map (λ e. item_function e.1) l.items.entries
