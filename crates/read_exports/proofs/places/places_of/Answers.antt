use Rattle.std.proofs.Common.{ap, sym, ◌∙◌, ◌||◌}
use Rattle.std.specs.List.{list_any}
use Rattle.wit_model.specs.Uses.{has}
use Rattle.plan_meaning.specs.NumberedMembers.{is_interface_of}
use Rattle.read_exports.specs.Members.{numbered_member, numbered_part}
use Rattle.read_exports.proofs.places.places_of.Goals as goal
use Rattle.base_lemmas.proofs.Elements.{any_of_map as any_mapped}

pub loop-member-init : goal.loop-member-init
loop-member-init c = λ p. ap (λ ks. has ks p || list_any (λ m. is_interface_of p (numbered_part m.part)) c.args.members.now) c.new-places.ensures.empty
    ∙ sym (any_mapped (λ m. is_interface_of p m.part) numbered_member c.args.members.now)
