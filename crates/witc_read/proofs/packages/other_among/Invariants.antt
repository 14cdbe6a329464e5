use Rattle.std.proofs.Common.{◌≡◌, true, take}
use Rattle.std.specs.List.{list_all}
use Rattle.witc_read.specs.Packages.{is_package}
use Rattle.witc_read.proofs.packages.other_among.Given as goal

abbrev pub invariant-loop-number : goal.invariant-loop-number
invariant-loop-number l = list_all (is_package l.main) (take l.number l.mains) ≡ true
