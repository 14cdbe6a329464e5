use Rattle.std.proofs.Common.{length, ◌-◌, ◌≡◌, drop, ◌≤◌}
use Rattle.teasel_messages.specs.Looks.{behind_blanks}
use Rattle.teasel_messages.proofs.looks.leading_space.Given as goal

abbrev pub invariant-loop-count : goal.invariant-loop-count
invariant-loop-count l = (l.count ≤ length l.bytes) × (behind_blanks (drop l.count l.bytes) ≡ behind_blanks l.bytes)

abbrev pub decreases-loop-count : goal.decreases-loop-count
decreases-loop-count l = length l.bytes - l.count
