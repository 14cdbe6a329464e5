use Rattle.std.proofs.Common.{◌≡◌, rules}
use Rattle.encode_types.specs.View.{SameRest}
use Rattle.encode_types.proofs.Agree.{leaves-kind}
use Rattle.encode_types.proofs.lend.remember_kind.Goals as goal

pub returns-clause-leaves : goal.returns-clause-leaves
returns-clause-leaves g c =
    let before : c.type_encoding_maps.result.now ≡ (g.E.ValtypeEncoder.view c.args.enc.now).maps = search rules in
    let after : (g.E.ValtypeEncoder.view (g.E.LendsMaps.with_maps c.args.enc.now c.remember_kind.new.self)).maps ≡ c.remember_kind.new.self = search rules in
    let rest : SameRest (g.E.ValtypeEncoder.view c.args.enc.now) (g.E.ValtypeEncoder.view (g.E.LendsMaps.with_maps c.args.enc.now c.remember_kind.new.self)) = search rules in
    leaves-kind c.remember_kind.result _ _ _ c.args.index rest c.requires.agree c.args.list.0.items c.requires.fresh c.requires.stands
    (rw (before, ← after) at c.remember_kind.ensures.ok) (rw (before, ← after) at c.remember_kind.ensures.err)

pub remember_kind-requires : goal.remember_kind-requires
remember_kind-requires g c = let same : c.type_encoding_maps.result.now ≡ (g.E.ValtypeEncoder.view c.args.enc.now).maps = search rules in rw same c.requires.fresh
