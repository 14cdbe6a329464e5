use Rattle.std.proofs.Common.{◌≡◌, map, take}
use Rattle.read_rules.specs.Tables.{given_text}
use Rattle.read_numbers.proofs.places.paths_of.Given as goal

abbrev pub invariant-loop-number : goal.invariant-loop-number
invariant-loop-number l = map given_text l.paths.items ≡ take l.number l.places
