use Rattle.std.proofs.Common.{◌≡◌, map, drop}
use Rattle.std.specs.List.{list_all}
use Rattle.read_rules.specs.{Interfaces.are_functions, Interfaces.may_stand, Tables.now_of, Views.numbered_function}
use Rattle.read_rules.proofs.interfaces.are_functions.Given as goal

-- those that are left decide
abbrev pub invariant-loop-function : goal.invariant-loop-function
invariant-loop-function l = list_all (λ f. may_stand l.tables l.place (map now_of l.resources.keys) (numbered_function f)) (drop l.function-index l.functions)
    ≡ are_functions l.tables l.place (map now_of l.resources.keys) (map numbered_function l.functions)
