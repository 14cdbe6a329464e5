use Rattle.std.proofs.Common.{◌≡◌, drop, length}
use Rattle.bind_carry.specs.Needs.{mark_each}
use Rattle.bind_union.specs.Views.{optional_numbers}
use Rattle.bind_carry.proofs.needs.mark_cases.Given as goal

-- the marks so far, with those of what is left, are all
abbrev pub invariant-loop-case : goal.invariant-loop-case
invariant-loop-case l = record {
  marks : mark_each (λ c. optional_numbers c.ty) l.marks (drop l.case-index l.cases) ≡ mark_each (λ c. optional_numbers c.ty) l.initial.marks l.cases;
  count : length l.marks ≡ length l.initial.marks;
}
