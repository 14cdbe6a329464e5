use Rattle.std.proofs.Common.{map, take}
use Rattle.encode_types.specs.Table.{AllDefined}
use Rattle.wit_component_tests.proofs.table_calls.are_defined.Given as goal

abbrev pub invariant-loop-param : goal.invariant-loop-param
invariant-loop-param l = AllDefined l.resolve (map (λ p. p.ty) (take l.param-index l.params))
