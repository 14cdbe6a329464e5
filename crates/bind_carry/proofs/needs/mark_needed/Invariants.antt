use Rattle.std.proofs.Common.{◌≡◌, ◌≤◌, drop, length}
use Rattle.bind_carry.specs.Needs.{needed_of}
use Rattle.bind_carry.proofs.needs.mark_needed.Given as goal

-- the parts of the types behind are marked
abbrev pub invariant-back : goal.invariant-back
invariant-back l = record {
  within : l.left ≤ length l.types;
  marks : l.marks ≡ needed_of l.initial.marks l.left (drop l.left l.types) (drop l.left l.fates);
  count : length l.marks ≡ length l.initial.marks;
}

abbrev pub decreases-back : goal.decreases-back
decreases-back l = l.left
