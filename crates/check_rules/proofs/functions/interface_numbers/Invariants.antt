use Rattle.std.proofs.Common.{◌≡◌, ◌++◌}
use Rattle.wit_model.specs.{Checks.all_values, Valid.functions_of_interface}
use Rattle.check_rules.proofs.functions.interface_numbers.Given as goal

abbrev pub invariant-loop-function : goal.invariant-loop-function
invariant-loop-function l = l.numbers.items ++ all_values l.function-iterator ≡ all_values (functions_of_interface l.interface)
