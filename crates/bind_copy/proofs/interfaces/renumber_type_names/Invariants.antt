use Rattle.std.proofs.Common.{◌≡◌, true, length}
use Rattle.bind_copy.specs.Copies.{are_names_below, AreWrittenSoFar, IsTypeEntry}
use Rattle.bind_copy.proofs.interfaces.renumber_type_names.Given as goal

-- the types so far have their new numbers
abbrev pub invariant-loop-place : goal.invariant-loop-place
invariant-loop-place l = AreWrittenSoFar (IsTypeEntry l.types) (λ es. are_names_below (length l.types) es ≡ true) l.initial.names.entries l.names.entries l.place
