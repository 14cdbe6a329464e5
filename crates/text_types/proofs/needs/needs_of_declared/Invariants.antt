use Rattle.text_types.specs.{Needed.StayBelow, Scopes.name_count}
use Rattle.text_types.proofs.needs.needs_of_declared.Given as goal

abbrev pub invariant-loop-field : goal.invariant-loop-field
invariant-loop-field l = StayBelow (name_count l.scope) l.initial.needs.items l.needs.items

abbrev pub invariant-loop-case : goal.invariant-loop-case
invariant-loop-case l = StayBelow (name_count l.scope) l.initial.needs.items l.needs.items
