use Rattle.std.proofs.Common.{◌≡◌, length}
use Rattle.bind_carry.specs.Needs.{mark_all}
use Rattle.bind_carry.proofs.needs.mark_items_of.Given as goal

-- the marks so far, with those of what is left, are all
abbrev pub invariant-loop-item : goal.invariant-loop-item
invariant-loop-item l = record {
  marks : mark_all l.marks l.item-iterator ≡ mark_all l.initial.marks l.items.entries;
  count : length l.marks ≡ length l.initial.marks;
}
