use Rattle.std.proofs.Common.{◌≡◌, ◌+◌, ◌||◌, ℕ, take}
use Rattle.wit_model.specs.Uses.{has}
use Rattle.plan_parts.specs.Marks.{is_marked}
use Rattle.plan_parts.proofs.marks.mark_parts.Given as goal

-- so many parts are marked
abbrev pub invariant-loop-part : goal.invariant-loop-part
invariant-loop-part l = (n : ℕ) → is_marked l.marks n ≡ (is_marked l.initial.marks n || has (take l.part-index l.parts) (14 + n))
