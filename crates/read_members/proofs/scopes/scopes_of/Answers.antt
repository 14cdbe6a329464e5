use Rattle.std.proofs.Common.{◌∙◌, ap, get_or, map, refl, sym, Some}
use Rattle.read_numbers.proofs.LoopLaws.{made_more}
use Rattle.read_members.specs.Layers.{shown_followed, shown_of_member, shown_owned}
use Rattle.read_members.proofs.ReadLaws.{at_index}
use Rattle.read_members.proofs.scopes.scopes_of.Goals as goal
use Rattle.base_lemmas.proofs.Lists.{mapped_get}

pub loop-number-preserved : goal.loop-number-preserved
loop-number-preserved c =
    let members = c.args.members.now in
    let number = c.loop-number.number in
    let member = get_or members number c.index-members-number.result in
    made_more shown_owned (map (shown_of_member c.args.places.now) members) number c.loop-number.all.items c.loop-number.invariant c.push.new.self.items c.in_ok-owned_scope.field-0
    (mapped_get (shown_of_member c.args.places.now) members number member (at_index members number _ member c.loop-number-test.true refl)
    ∙ ap Some (sym (c.in_ok-owned_scope.ensures ∙ ap (shown_followed c.args.places.now) c.scope_in-scope.ensures))) c.in_ok-push.ensures.items
