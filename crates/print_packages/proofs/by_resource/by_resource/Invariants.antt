-- With those that are left, those so far are the functions of each resource.
use Rattle.std.proofs.Common.{◌≡◌, ◌++◌, drop, filter, map}
use Rattle.wit_model.specs.declared.model.TypeId.{TypeId}
use Rattle.print_packages.specs.GivenTypes.{functions_under}
use Rattle.print_items.specs.Shown.{belongs_to}
use Rattle.print_packages.proofs.by_resource.by_resource.Given as goal

abbrev pub invariant-loop-function : goal.invariant-loop-function
invariant-loop-function l = (id : TypeId) → functions_under l.grouped.entries id ++ filter (belongs_to id) (map (λ f. f.now) (drop l.function-index l.functions)) ≡ filter (belongs_to id)
    (map (λ f. f.now) l.functions)
