use Rattle.std.proofs.Common.{map, take}
use Rattle.encode_types.specs.Plan.{AllInRange}
use Rattle.wit_component_tests.proofs.table_calls.are_in_range.Given as goal

abbrev pub invariant-loop-param : goal.invariant-loop-param
invariant-loop-param l = AllInRange l.resolve (map (λ p. p.ty) (take l.param-index l.params))
