use Rattle.std.proofs.Common.{◌≡◌, map, drop}
use Rattle.std.specs.List.{list_all}
use Rattle.read_rules.specs.Views.{numbered_function}
use Rattle.plan_parts.specs.Agreement.{are_told, is_told, told_function}
use Rattle.plan_parts.proofs.agreement.are_told.Given as goal

-- those that are left decide
abbrev pub invariant-loop-function : goal.invariant-loop-function
invariant-loop-function l =
    list_all (λ f. is_told (map told_function l.all.keys) (numbered_function f)) (drop l.function-index l.functions) ≡ are_told (map told_function l.all.keys) (map numbered_function l.functions)
