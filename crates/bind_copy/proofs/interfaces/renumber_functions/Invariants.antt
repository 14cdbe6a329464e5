use Rattle.std.proofs.Common.{length}
use Rattle.bind_copy.specs.Copies.{AreFunctionsBelow, AreWrittenSoFar, IsFunctionEntry}
use Rattle.bind_copy.proofs.interfaces.renumber_functions.Given as goal

-- the functions so far have their new numbers
abbrev pub invariant-loop-place : goal.invariant-loop-place
invariant-loop-place l = AreWrittenSoFar (IsFunctionEntry l.types) (AreFunctionsBelow (length l.types)) l.initial.functions.entries l.functions.entries l.place
