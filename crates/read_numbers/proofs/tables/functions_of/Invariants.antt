use Rattle.std.proofs.Common.{◌≡◌, map, take}
use Rattle.read_rules.specs.Tables.{numbered_function_type}
use Rattle.read_numbers.specs.NumberedParts.{numbered_function}
use Rattle.read_numbers.proofs.tables.functions_of.Given as goal

abbrev pub invariant-loop-number : goal.invariant-loop-number
invariant-loop-number l = map numbered_function_type l.types.items ≡ take l.number (map numbered_function l.functions)
