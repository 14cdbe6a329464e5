use Rattle.std.proofs.Common.{◌≡◌, ◌++◌, map, drop}
use Rattle.plan_package.specs.WholePackages.{labelled_place, interfaces_in}
use Rattle.plan_package.proofs.packages.interfaces_among.Given as goal

-- those that were added, and those among the members that are left, are all
abbrev pub invariant-loop-member : goal.invariant-loop-member
invariant-loop-member l = map labelled_place l.interfaces.items ++ interfaces_in (drop l.member-index l.members) ≡ interfaces_in l.members
