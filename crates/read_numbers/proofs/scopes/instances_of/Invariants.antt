use Rattle.std.proofs.Common.{◌≡◌, map, take}
use Rattle.read_rules.specs.Scopes.{numbered_instance}
use Rattle.read_numbers.specs.NumberedParts.{numbered_instance as followed_instance}
use Rattle.read_numbers.proofs.scopes.instances_of.Given as goal

abbrev pub invariant-loop-number : goal.invariant-loop-number
invariant-loop-number l = map numbered_instance l.all.items ≡ take l.number (map followed_instance l.instances)
