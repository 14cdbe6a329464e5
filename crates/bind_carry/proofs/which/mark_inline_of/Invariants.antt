use Rattle.std.proofs.Common.{◌≡◌, drop, length}
use Rattle.bind_carry.specs.Marked.{mark_worlds}
use Rattle.bind_carry.proofs.which.mark_inline_of.Given as goal

-- the flags so far, with what is set for the worlds that are left, are all
abbrev pub invariant-loop-number : goal.invariant-loop-number
invariant-loop-number l = record {
  marks : mark_worlds l.other l.marks (drop l.number l.worlds) (drop l.number l.other.worlds.items) ≡ mark_worlds l.other l.initial.marks l.worlds l.other.worlds.items;
  count : length l.marks ≡ length l.initial.marks;
}
