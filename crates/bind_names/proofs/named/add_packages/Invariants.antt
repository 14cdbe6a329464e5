use Rattle.std.proofs.Common.{take}
use Rattle.bind_names.specs.Named.{AreNamed}
use Rattle.bind_names.proofs.named.add_packages.Given as goal

-- the packages so far are found by their names
abbrev pub invariant-loop-number : goal.invariant-loop-number
invariant-loop-number l = AreNamed (take l.number l.packages) l.named
