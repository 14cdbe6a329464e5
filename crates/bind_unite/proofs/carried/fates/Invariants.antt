use Rattle.std.proofs.Common.{◌≡◌, ◌++◌, map, drop}
use Rattle.bind_carry.specs.First.{fate_of}
use Rattle.bind_unite.proofs.carried.fates.Given as goal

-- what is there, with what is left, is all of it
abbrev pub invariant-loop-def : goal.invariant-loop-def
invariant-loop-def l = l.fates.items ++ map (fate_of l.own l.matches.interfaces.items l.carried) (drop l.def-index l.other.types.items) ≡ map (fate_of l.own l.matches.interfaces.items l.carried)
    l.other.types.items
