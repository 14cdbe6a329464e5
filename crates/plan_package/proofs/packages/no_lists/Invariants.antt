use Rattle.std.proofs.Common.{◌≡◌, ℕ, [], length}
use Rattle.plan_package.specs.WholePackages.{listed_at}
use Rattle.plan_package.proofs.packages.no_lists.Given as goal

-- so many lists, all of them empty
abbrev pub invariant-loop : goal.invariant-loop
invariant-loop l = record { many : length l.table.items ≡ l.counter; none : (q : ℕ) → listed_at l.table.items q ≡ [] }
