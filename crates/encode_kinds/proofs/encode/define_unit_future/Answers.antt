use Rattle.std.proofs.Common.{refl, None, rules}
use Rattle.wit_model.specs.Tree.{future_tree}
use Rattle.encode_types.proofs.Defining.{leaves-kept, leaves-fill}
use Rattle.encode_kinds.proofs.encode.define_unit_future.Goals as goal

pub defined_type-requires : goal.defined_type-requires
defined_type-requires g c = λ _. ((refl, tt), (future_tree None, (None, tt, refl), record { sound = c.requires.sound; formed = refl }))

pub returns-clause-leaves : goal.returns-clause-leaves
returns-clause-leaves g c = leaves-fill (leaves-kept {v = g.E.ValtypeEncoder.view c.args.enc.now} {v' = g.E.ValtypeEncoder.view c.defined_type.new.self} c.requires.agree c.defined_type.ensures.grows
    c.defined_type.ensures.scope_stays c.defined_type.ensures.maps_stay) (rw c.defined_type.ensures.scope_stays at c.remember_unit_future.ensures.leaves)

pub returns-in_err-index-clause-size : goal.returns-in_err-index-clause-size
returns-in_err-index-clause-size g c = λ h. c.defined_type.ensures.size (search rules) (future_tree None) (None, tt, refl)
