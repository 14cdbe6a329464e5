use Rattle.std.proofs.Common.{◌≡◌, ◌++◌, drop}
use Rattle.bind_carry.specs.First.{second_from}
use Rattle.bind_unite.proofs.bound.first_fates.Given as goal

-- the fates so far, with those of what is left, are all
abbrev pub invariant-loop-number : goal.invariant-loop-number
invariant-loop-number l = l.fates.items ++ second_from l.bound.other.now l.bound.world.0 l.bound.other_world.0 l.copied l.interfaces (drop l.number l.bound.other.now.types.items)
    (drop l.number l.first.fates.now) (drop l.number l.first.types.now) ≡ second_from l.bound.other.now l.bound.world.0 l.bound.other_world.0 l.copied l.interfaces l.bound.other.now.types.items
    l.first.fates.now l.first.types.now
