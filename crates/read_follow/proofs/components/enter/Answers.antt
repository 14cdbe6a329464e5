use Rattle.std.proofs.Common.{◌∙◌, ap, length, subst, List}
use Rattle.read_follow.specs.declared.{slots.Slot.Slot}
use Rattle.read_follow.specs.{Bodies.IsWhole, Scopes.world_of}
use Rattle.read_follow.proofs.{ComponentLaws.held_goes}
use Rattle.read_follow.proofs.components.enter.Goals as goal

pub returns-in-Plain-clause-absent : goal.returns-in-Plain-clause-absent
returns-in-Plain-clause-absent c = rw c.in-Plain.is c.step.ensures.absent

pub returns-in_ok-push-in-Holds-clause-followed : goal.returns-in_ok-push-in-Holds-clause-followed
returns-in_ok-push-in-Holds-clause-followed c =
    let old = world_of c.args.table.now c.args.functions.now c.args.places.now c.args.scope.now in
    rw c.in-Holds.is (held_goes old c.requires.world c.in-Holds.body c.count_of-around.result c.push.new.self.items (subst IsWhole c.in-Holds.is c.requires.whole)
    (c.count_of-around.ensures ∙ ap (λ (ss : List Slot). length ss) c.deref.ensures.value) c.in_ok-push-in-Holds.ensures.items)
