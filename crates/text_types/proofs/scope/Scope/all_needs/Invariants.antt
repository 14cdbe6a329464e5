use Rattle.std.proofs.Common.{◌≡◌, length}
use Rattle.text_types.specs.{Needed.AreAllBelow, Scopes.name_count}
use Rattle.text_types.proofs.scope.Scope.all_needs.Given as goal

abbrev pub invariant-loop-own : goal.invariant-loop-own
invariant-loop-own l = record { count : length l.all.items ≡ l.own-index; below : AreAllBelow (name_count l.self) l.all.items }
