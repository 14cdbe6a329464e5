use Rattle.std.proofs.Common.{◌≡◌, map, take}
use Rattle.read_rules.specs.Tables.{numbered_shape}
use Rattle.read_numbers.proofs.tables.shapes_of.Given as goal

abbrev pub invariant-loop-number : goal.invariant-loop-number
invariant-loop-number l = map numbered_shape l.shapes.items ≡ take l.number l.table
