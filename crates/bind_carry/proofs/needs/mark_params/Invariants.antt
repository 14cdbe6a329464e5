use Rattle.std.proofs.Common.{◌≡◌, drop, length}
use Rattle.bind_carry.specs.Needs.{mark_each}
use Rattle.bind_union.specs.Views.{type_numbers}
use Rattle.bind_carry.proofs.needs.mark_params.Given as goal

-- the marks so far, with those of what is left, are all
abbrev pub invariant-loop-param : goal.invariant-loop-param
invariant-loop-param l = record {
  marks : mark_each (λ p. type_numbers p.ty) l.marks (drop l.param-index l.params) ≡ mark_each (λ p. type_numbers p.ty) l.initial.marks l.params;
  count : length l.marks ≡ length l.initial.marks;
}
