use Rattle.std.proofs.Common.{◌≡◌, rules}
use Rattle.encode_types.specs.View.{SameRest}
use Rattle.encode_types.proofs.Agree.{leaves-number}
use Rattle.encode_types.proofs.lend.remember_id.Goals as goal

pub returns-clause-leaves : goal.returns-clause-leaves
returns-clause-leaves g c =
    let before : c.type_encoding_maps.result.now ≡ (g.E.ValtypeEncoder.view c.args.enc.now).maps = search rules in
    let after : (g.E.ValtypeEncoder.view (g.E.LendsMaps.with_maps c.args.enc.now c.remember_id.new.self)).maps ≡ c.remember_id.new.self = search rules in
    let rest : SameRest (g.E.ValtypeEncoder.view c.args.enc.now) (g.E.ValtypeEncoder.view (g.E.LendsMaps.with_maps c.args.enc.now c.remember_id.new.self)) = search rules in
    leaves-number c.remember_id.result _ _ _ c.args.index rest c.requires.agree c.args.id c.requires.fresh c.requires.stands
    (rw (before, ← after) at c.remember_id.ensures.ok) (rw (before, ← after) at c.remember_id.ensures.err)
