use Rattle.std.proofs.Common.{◌≡◌, length}
use Rattle.bind_carry.specs.{Marked.mark_items, Shown.AreShownBelow}
use Rattle.bind_carry.proofs.which.mark_all_inline.Given as goal

-- the flags so far, with what is set for the items that are left, are all
abbrev pub invariant-loop-item : goal.invariant-loop-item
invariant-loop-item l = record {
  left : AreShownBelow (length l.other.interfaces.items) l.item-iterator;
  marks : mark_items l.other l.marks l.item-iterator ≡ mark_items l.other l.initial.marks l.items.entries;
  count : length l.marks ≡ length l.initial.marks;
}
