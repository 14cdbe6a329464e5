use Rattle.std.proofs.Common.{◌∙◌, ap, sym, refl, arith, length, List}
use Rattle.read_follow.specs.declared.slots.Slot.{Slot}
use Rattle.read_follow.specs.{Defining.IsPlacedBelow, Scopes.are_settled, Scopes.world_of}
use Rattle.plan_meaning.specs.Shapes.{named_shape}
use Rattle.read_follow.proofs.{ComponentLaws.no_scope, ComponentLaws.scope_shown, DefiningLaws.all_at}
use Rattle.read_follow.proofs.components.follow_component.Goals as goal

pub returns-then-are_settled-clause-shown : goal.returns-then-are_settled-clause-shown
returns-then-are_settled-clause-shown c = scope_shown c.in_ok-home.home c.args.table.now c.args.functions.now c.args.places.now c.new_place.new.self c.in_ok-home.ensures.grows
    c.in_ok-home.ensures.number c.args.entries.body (world_of c.follow_entries.new.table c.follow_entries.new.functions c.follow_entries.new.places c.in-Ok.scope) c.in-Ok.ensures.followed
    (ap (λ (ss : List Slot). are_settled c.in-Ok.scope.used.keys 0 ss) (sym c.deref.ensures.value) ∙ (sym c.are_settled.ensures ∙ c.if-are_settled.true))

pub returns-in-Ok-clause-absent : goal.returns-in-Ok-clause-absent
returns-in-Ok-clause-absent c = no_scope c.in_ok-home.home c.args.table.now c.args.functions.now c.args.places.now c.new_place.new.self c.in_ok-home.ensures.grows c.in_ok-home.ensures.number
    c.args.entries.body (world_of c.follow_entries.new.table c.follow_entries.new.functions c.follow_entries.new.places c.in-Ok.scope) c.in-Ok.ensures.followed
    (ap (λ (ss : List Slot). are_settled c.in-Ok.scope.used.keys 0 ss) (sym c.deref.ensures.value) ∙ (sym c.are_settled.ensures ∙ c.if-are_settled.false))

pub follow_entries-requires-clause-fresh : goal.follow_entries-requires-clause-fresh
follow_entries-requires-clause-fresh c = λ n name at.
    let below = all_at (IsPlacedBelow (length c.args.places.now)) c.args.table.now n (named_shape c.in_ok-home.home name) c.requires.tables.placed at refl in
    let same = c.in_ok-home.ensures.number in
    omega (arith, below, same)
