use Rattle.text_types.specs.{Needed.StayBelow, Scopes.name_count}
use Rattle.text_types.proofs.needs.+needs.Given as goal

abbrev pub invariant-needs_of_types-loop-ty : goal.invariant-needs_of_types-loop-ty
invariant-needs_of_types-loop-ty l = StayBelow (name_count l.scope) l.initial.needs.items l.needs.items
