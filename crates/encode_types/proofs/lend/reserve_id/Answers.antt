use Rattle.std.proofs.Common.{◌≡◌, rules}
use Rattle.encode_types.specs.View.{SameRest}
use Rattle.encode_types.proofs.Agree.{leaves-listed, same-adds}
use Rattle.encode_types.proofs.lend.reserve_id.Goals as goal

pub returns-clause-leaves : goal.returns-clause-leaves
returns-clause-leaves g c =
    let before : c.type_encoding_maps.result.now ≡ (g.E.ValtypeEncoder.view c.args.enc.now).maps = search rules in
    let after : (g.E.ValtypeEncoder.view (g.E.LendsMaps.with_maps c.args.enc.now c.reserve_id.new.self)).maps ≡ c.reserve_id.new.self = search rules in
    let rest : SameRest (g.E.ValtypeEncoder.view c.args.enc.now) (g.E.ValtypeEncoder.view (g.E.LendsMaps.with_maps c.args.enc.now c.reserve_id.new.self)) = search rules in
    leaves-listed _ _ _ rest c.requires (same-adds _ _ (rw (before, ← after) at c.reserve_id.ensures.same))
