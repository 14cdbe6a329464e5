use Rattle.std.proofs.Common.{◌≡◌, drop}
use Rattle.read_follow.specs.Scopes.{are_settled}
use Rattle.read_follow.proofs.components.are_settled.Given as goal

-- what is left decides
abbrev pub invariant-loop-number : goal.invariant-loop-number
invariant-loop-number l = are_settled l.used.keys l.number (drop l.number l.slots) ≡ are_settled l.used.keys 0 l.slots
