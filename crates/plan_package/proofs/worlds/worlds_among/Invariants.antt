use Rattle.std.proofs.Common.{◌≡◌, ◌++◌, map, drop}
use Rattle.plan_package.specs.WholeWorlds.{labelled, worlds_in}
use Rattle.plan_package.proofs.worlds.worlds_among.Given as goal

-- those that were added, and those among the members that are left, are all
abbrev pub invariant-loop-member : goal.invariant-loop-member
invariant-loop-member l = map labelled l.worlds.items ++ worlds_in (drop l.member-index l.members) ≡ worlds_in l.members
