-- Those so far that belong to the resource are found.
use Rattle.std.proofs.Common.{◌≡◌, ◌++◌, drop, filter, map}
use Rattle.print_items.specs.Shown.{belongs_to}
use Rattle.print_packages.proofs.declaration.functions_of.Given as goal

abbrev pub invariant-loop-function : goal.invariant-loop-function
invariant-loop-function l = map (λ f. f.now) l.found.items ++ filter (belongs_to l.resource) (map (λ f. f.now) (drop l.function-index l.functions)) ≡ filter (belongs_to l.resource)
    (map (λ f. f.now) l.functions)
