use Rattle.std.proofs.Common.{◌≡◌, ◌++◌, map, drop}
use Rattle.plan_package.specs.{WholePackages.numbered_labels, WholePackages.numbered_world, WholeWorlds.labelled}
use Rattle.plan_package.proofs.packages.by_order.Given as goal

-- those that are numbered, and those that are left, are all
abbrev pub invariant-loop-number : goal.invariant-loop-number
invariant-loop-number l = map numbered_world l.all.items ++ numbered_labels l.number (map labelled (drop l.number l.worlds)) ≡ numbered_labels 0 (map labelled l.worlds)
