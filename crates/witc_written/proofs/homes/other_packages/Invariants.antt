use Rattle.std.proofs.Common.{◌≡◌}
use Rattle.witc_written.proofs.HomeLaws.{others_below}
use Rattle.witc_written.proofs.homes.other_packages.Given as goal

-- the packages so far
abbrev pub invariant-loop-number : goal.invariant-loop-number
invariant-loop-number l = l.others.items ≡ others_below l.home.0 l.number
