use Rattle.std.proofs.Common.{◌≡◌, drop, length}
use Rattle.bind_carry.specs.Needs.{mark_interfaces}
use Rattle.bind_carry.proofs.needs.mark_interfaces_of.Given as goal

-- the marks so far, with those of what is left, are all
abbrev pub invariant-loop-number : goal.invariant-loop-number
invariant-loop-number l = record {
  marks : mark_interfaces l.marks (drop l.number l.copied) (drop l.number l.interfaces) ≡ mark_interfaces l.initial.marks l.copied l.interfaces;
  count : length l.marks ≡ length l.initial.marks;
}
