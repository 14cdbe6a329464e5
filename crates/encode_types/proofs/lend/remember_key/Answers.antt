use Rattle.std.proofs.Common.{◌≡◌, rules}
use Rattle.encode_types.specs.View.{SameRest}
use Rattle.encode_types.proofs.Agree.{leaves-key}
use Rattle.encode_types.proofs.lend.remember_key.Goals as goal

pub returns-clause-leaves : goal.returns-clause-leaves
returns-clause-leaves g c =
    let before : c.type_encoding_maps.result.now ≡ (g.E.ValtypeEncoder.view c.args.enc.now).maps = search rules in
    let after : (g.E.ValtypeEncoder.view (g.E.LendsMaps.with_maps c.args.enc.now c.remember_key.new.self)).maps ≡ c.remember_key.new.self = search rules in
    let rest : SameRest (g.E.ValtypeEncoder.view c.args.enc.now) (g.E.ValtypeEncoder.view (g.E.LendsMaps.with_maps c.args.enc.now c.remember_key.new.self)) = search rules in
    leaves-key c.remember_key.result _ _ _ c.args.index rest c.requires.agree c.args.list.0.items c.requires.fresh c.requires.stands
    (rw (before, ← after) at c.remember_key.ensures.ok) (rw (before, ← after) at c.remember_key.ensures.err)

pub remember_key-requires : goal.remember_key-requires
remember_key-requires g c = let same : c.type_encoding_maps.result.now ≡ (g.E.ValtypeEncoder.view c.args.enc.now).maps = search rules in rw same c.requires.fresh
