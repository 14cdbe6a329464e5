use Rattle.std.proofs.Common.{◌≡◌, ◌++◌, map, drop}
use Rattle.read_rules.specs.Views.{numbered_function}
use Rattle.plan_types.proofs.showings.add_functions.Given as goal

-- those that were added, and those that are left, are all
abbrev pub invariant-loop-function : goal.invariant-loop-function
invariant-loop-function l = l.all.items ++ map (λ f. f.1.signature) (drop l.function-index (map numbered_function l.functions)) ≡ l.initial.all.items ++ map (λ f. f.1.signature)
    (map numbered_function l.functions)
