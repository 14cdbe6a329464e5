use Rattle.std.proofs.Common.{◌≡◌, true, length}
use Rattle.bind_copy.specs.Copies.{are_fields_below, AreWrittenSoFar, IsFieldUnder}
use Rattle.bind_copy.proofs.moved.renumber_fields.Given as goal

-- the fields so far have their new numbers
abbrev pub invariant-loop-field : goal.invariant-loop-field
invariant-loop-field l = AreWrittenSoFar (IsFieldUnder l.numbers) (λ xs. are_fields_below (length l.numbers) xs ≡ true) l.initial.fields l.fields l.field-index
