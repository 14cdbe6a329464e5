use Rattle.std.proofs.Common.{drop}
use Rattle.bind_copy.specs.Copies.{IsInterfaceUnder}
use Rattle.bind_carry.specs.Whole.{KeptSoFar}
use Rattle.bind_unite.proofs.bound.inline_copies.Given as goal

-- what is there are the copies of those so far whose flags are set
abbrev pub invariant-loop-number : goal.invariant-loop-number
invariant-loop-number l = KeptSoFar (IsInterfaceUnder l.types l.home) l.copied l.other.interfaces.items (drop l.number l.copied) (drop l.number l.other.interfaces.items) l.interfaces.items
