use Rattle.std.proofs.Common.{◌≡◌, ◌++◌, map}
use Rattle.encode_reach.proofs.reach.interfaces_of.Given as goal

abbrev pub invariant-loop-number : goal.invariant-loop-number
invariant-loop-number l = map (λ id. id.0) l.all.items ++ l.number-iterator ≡ l.numbers.keys
