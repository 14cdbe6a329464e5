use Rattle.std.proofs.Common.{drop}
use Rattle.bind_carry.specs.Packaged.{GainedSoFar}
use Rattle.bind_carry.proofs.packages.gained_names.Given as goal

-- what is there are the gains of those so far that aren't new
abbrev pub invariant-loop-number : goal.invariant-loop-number
invariant-loop-number l = GainedSoFar l.carried l.other.packages.items (drop l.number l.carried.new_packages.items) (drop l.number l.carried.packages.items) (drop l.number l.other.packages.items)
    l.gained.items
