use Rattle.std.proofs.Common.{◌≡◌, ◌++◌, ◌<◌, ℕ, drop, length}
use Rattle.read_exports.specs.Members.{homes_alone}
use Rattle.plan_meaning.specs.NumberedMembers.{home_at}
use Rattle.plan_package.specs.WholePackages.{entries_from, listed_at}
use Rattle.plan_package.proofs.packages.list_interfaces.Given as goal

-- what is listed so far of each package, with what is left, is all
abbrev pub invariant-loop-number : goal.invariant-loop-number
invariant-loop-number l = record {
  many : length l.table ≡ length l.initial.table;
  listed : (q : ℕ) → q < length l.table
      → listed_at l.table q ++ entries_from (home_at (homes_alone l.homes)) q l.number (drop l.number l.places) ≡ entries_from (home_at (homes_alone l.homes)) q 0 l.places;
}
