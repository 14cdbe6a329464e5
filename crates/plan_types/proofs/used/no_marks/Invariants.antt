use Rattle.std.proofs.Common.{◌≡◌, ℕ, false, length}
use Rattle.plan_parts.specs.Marks.{is_marked}
use Rattle.plan_types.proofs.used.no_marks.Given as goal

-- so many marks, none of them set
abbrev pub invariant-loop : goal.invariant-loop
invariant-loop l = record { many : length l.marks.items ≡ l.counter; none : (n : ℕ) → is_marked l.marks.items n ≡ false }
