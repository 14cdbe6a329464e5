-- Those so far are listed.
use Rattle.std.proofs.Common.{◌≡◌, ◌++◌, map}
use Rattle.print_packages.proofs.types.listed_functions.Given as goal

abbrev pub invariant-loop-name : goal.invariant-loop-name
invariant-loop-name l = map (λ f. f.now) l.listed.items ++ map (λ e. e.1) l.name-iterator ≡ map (λ e. e.1) l.functions.entries
