use Rattle.std.proofs.Common.{◌≡◌, length, true}
use Rattle.bind_carry.specs.{Needs.mark_new, Shown.are_keys_below}
use Rattle.bind_carry.proofs.needs.mark_new_items.Given as goal

-- the marks so far, with those of what is left, are all
abbrev pub invariant-loop-key : goal.invariant-loop-key
invariant-loop-key l = record {
  left : are_keys_below (length l.interfaces) l.key-iterator ≡ true;
  marks : mark_new l.interfaces l.here.entries l.marks l.key-iterator ≡ mark_new l.interfaces l.here.entries l.initial.marks l.items.entries;
  count : length l.marks ≡ length l.initial.marks;
}
