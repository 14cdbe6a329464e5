use Rattle.encode_types.specs.Table.{IsTableOf}
use Rattle.encode_flat.specs.Flat.{flat_view}
use Rattle.wit_component_tests.proofs.table_calls.right_answers.Given as goal

abbrev pub invariant-loop-number : goal.invariant-loop-number
invariant-loop-number l = IsTableOf l.resolve (record { 0 = 1 }) (flat_view l.table)
