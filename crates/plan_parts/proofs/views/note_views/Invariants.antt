use Rattle.std.proofs.Common.{◌≡◌, ◌<◌, ℕ, get_or, length, take, None}
use Rattle.plan_parts.specs.Views.{first_index, passes}
use Rattle.plan_parts.proofs.views.note_views.Given as goal

-- the table of so many views
abbrev pub invariant-loop-view : goal.invariant-loop-view
invariant-loop-view l = (p : ℕ) → p < length l.initial.table → get_or l.table p None ≡ first_index (passes l.wholes p) (take l.view l.sights)
