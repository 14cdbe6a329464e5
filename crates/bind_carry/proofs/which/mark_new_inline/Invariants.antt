use Rattle.std.proofs.Common.{◌≡◌, length}
use Rattle.bind_carry.specs.{Marked.mark_new_items, Shown.AreNewShownBelow}
use Rattle.bind_carry.proofs.which.mark_new_inline.Given as goal

-- the flags so far, with what is set for the items that are left, are all
abbrev pub invariant-loop-key : goal.invariant-loop-key
invariant-loop-key l = record {
  left : AreNewShownBelow (length l.interfaces) (length l.other.interfaces.items) l.key-iterator;
  marks : mark_new_items l.other l.interfaces l.here.entries l.marks l.key-iterator ≡ mark_new_items l.other l.interfaces l.here.entries l.initial.marks l.items.entries;
  count : length l.marks ≡ length l.initial.marks;
}
