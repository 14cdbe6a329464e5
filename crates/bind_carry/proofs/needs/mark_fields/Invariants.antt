use Rattle.std.proofs.Common.{◌≡◌, drop, length}
use Rattle.bind_carry.specs.Needs.{mark_each}
use Rattle.bind_union.specs.Views.{type_numbers}
use Rattle.bind_carry.proofs.needs.mark_fields.Given as goal

-- the marks so far, with those of what is left, are all
abbrev pub invariant-loop-field : goal.invariant-loop-field
invariant-loop-field l = record {
  marks : mark_each (λ f. type_numbers f.ty) l.marks (drop l.field-index l.fields) ≡ mark_each (λ f. type_numbers f.ty) l.initial.marks l.fields;
  count : length l.marks ≡ length l.initial.marks;
}
