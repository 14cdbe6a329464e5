use Rattle.std.proofs.Common.{◌≡◌, drop, length}
use Rattle.bind_carry.specs.Needs.{mark_each}
use Rattle.bind_union.specs.Views.{type_numbers}
use Rattle.bind_carry.proofs.needs.mark_types.Given as goal

-- the marks so far, with those of what is left, are all
abbrev pub invariant-loop-ty : goal.invariant-loop-ty
invariant-loop-ty l = record {
  marks : mark_each type_numbers l.marks (drop l.ty-index l.types) ≡ mark_each type_numbers l.initial.marks l.types;
  count : length l.marks ≡ length l.initial.marks;
}
