use Rattle.std.proofs.Common.{◌≡◌, ℕ, get_or, length, None}
use Rattle.plan_parts.proofs.views.no_views.Given as goal

-- so many places have none
abbrev pub invariant-loop : goal.invariant-loop
invariant-loop l = record { len : length l.table.items ≡ l.counter; none : (p : ℕ) → get_or l.table.items p None ≡ None }
