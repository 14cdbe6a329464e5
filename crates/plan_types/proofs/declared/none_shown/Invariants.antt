use Rattle.std.proofs.Common.{◌≡◌, ℕ, length, get_or, None}
use Rattle.plan_types.proofs.declared.none_shown.Given as goal

-- so many types, none of them shown
abbrev pub invariant-loop : goal.invariant-loop
invariant-loop l = record { many : length l.table.items ≡ l.counter; none : (n : ℕ) → get_or l.table.items n None ≡ None }
