use Rattle.std.proofs.Common.{◌≡◌, true, length}
use Rattle.bind_copy.specs.Copies.{are_cases_below, AreWrittenSoFar, IsCaseUnder}
use Rattle.bind_copy.proofs.moved.renumber_cases.Given as goal

-- the cases so far have their new numbers
abbrev pub invariant-loop-case : goal.invariant-loop-case
invariant-loop-case l = AreWrittenSoFar (IsCaseUnder l.numbers) (λ xs. are_cases_below (length l.numbers) xs ≡ true) l.initial.cases l.cases l.case-index
