use Rattle.std.proofs.Common.{◌≡◌, length}
use Rattle.bind_carry.specs.Needs.{mark_functions}
use Rattle.bind_carry.proofs.needs.mark_interface.Given as goal

-- the marks so far, with those of what is left, are all
abbrev pub invariant-loop-function : goal.invariant-loop-function
invariant-loop-function l = record {
  marks : mark_functions l.marks l.function-iterator ≡ mark_functions l.initial.marks l.interface.functions.entries;
  count : length l.marks ≡ length l.initial.marks;
}
