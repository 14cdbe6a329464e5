use Rattle.std.proofs.Common.{◌≡◌, true, length}
use Rattle.bind_copy.specs.Copies.{are_parts_below, AreWrittenSoFar, IsPartUnder}
use Rattle.bind_copy.proofs.moved.renumber_types.Given as goal

-- the types so far have their new numbers
abbrev pub invariant-loop-ty : goal.invariant-loop-ty
invariant-loop-ty l = AreWrittenSoFar (IsPartUnder l.numbers) (λ xs. are_parts_below (length l.numbers) xs ≡ true) l.initial.types l.types l.ty-index
