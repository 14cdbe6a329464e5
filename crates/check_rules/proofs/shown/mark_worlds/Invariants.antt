use Rattle.std.proofs.Common.{◌≡◌, ℕ, ◌<◌, length, drop}
use Rattle.check_rules.specs.Places.{joined, shown_by_all, shown_entry}
use Rattle.check_rules.proofs.shown.mark_worlds.Given as goal

-- what is left to mark
abbrev pub invariant-loop-world : goal.invariant-loop-world
invariant-loop-world l = (n : ℕ) → n < length l.fn.table → joined (shown_entry l.table n) (shown_by_all n (drop l.world-index l.worlds)) ≡ joined (shown_entry l.fn.table n) (shown_by_all n l.worlds)
