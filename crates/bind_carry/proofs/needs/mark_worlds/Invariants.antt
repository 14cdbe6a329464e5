use Rattle.std.proofs.Common.{◌≡◌, drop, length}
use Rattle.bind_carry.specs.Needs.{mark_worlds_of}
use Rattle.bind_carry.proofs.needs.mark_worlds.Given as goal

-- the marks so far, with those of what is left, are all
abbrev pub invariant-loop-number : goal.invariant-loop-number
invariant-loop-number l = record {
  marks : mark_worlds_of l.marks (drop l.number l.copied) (drop l.number l.worlds) ≡ mark_worlds_of l.initial.marks l.copied l.worlds;
  count : length l.marks ≡ length l.initial.marks;
}
