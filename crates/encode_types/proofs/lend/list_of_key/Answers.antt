use Rattle.std.proofs.Common.{◌≡◌, rules}
use Rattle.encode_types.specs.View.{SameRest}
use Rattle.encode_types.proofs.Agree.{leaves-listed}
use Rattle.encode_types.proofs.lend.list_of_key.Goals as goal

pub returns-clause-leaves : goal.returns-clause-leaves
returns-clause-leaves g c =
    let before : c.type_encoding_maps.result.now ≡ (g.E.ValtypeEncoder.view c.args.enc.now).maps = search rules in
    let after : (g.E.ValtypeEncoder.view (g.E.LendsMaps.with_maps c.args.enc.now c.list_of_key.new.self)).maps ≡ c.list_of_key.new.self = search rules in
    let rest : SameRest (g.E.ValtypeEncoder.view c.args.enc.now) (g.E.ValtypeEncoder.view (g.E.LendsMaps.with_maps c.args.enc.now c.list_of_key.new.self)) = search rules in
    leaves-listed _ _ _ rest c.requires (rw (before, ← after) at c.list_of_key.ensures.names)

pub returns-clause-known : goal.returns-clause-known
returns-clause-known g c =
    let before : c.type_encoding_maps.result.now ≡ (g.E.ValtypeEncoder.view c.args.enc.now).maps = search rules in
    let after : (g.E.ValtypeEncoder.view (g.E.LendsMaps.with_maps c.args.enc.now c.list_of_key.new.self)).maps ≡ c.list_of_key.new.self = search rules in
    rw (before, ← after) at c.list_of_key.ensures.known
