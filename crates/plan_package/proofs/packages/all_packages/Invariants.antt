use Rattle.std.proofs.Common.{◌≡◌, ◌≤◌, ℕ, length, map}
use Rattle.plan_build.specs.PlanOf.{stated_package}
use Rattle.plan_package.specs.WholePackages.{listed_at, ArePlanned}
use Rattle.plan_package.proofs.packages.all_packages.Given as goal

-- so many packages, and the lists of the others
abbrev pub invariant-loop-number : goal.invariant-loop-number
invariant-loop-number l = record {
  many : length l.lists ≡ length l.initial.lists;
  left : (q : ℕ) → l.number ≤ q → listed_at l.lists q ≡ listed_at l.initial.lists q;
  planned : ArePlanned l.packages l.main l.places.keys l.members (listed_at l.initial.lists) l.number (map stated_package l.all.items);
}
