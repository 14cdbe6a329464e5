use Rattle.std.proofs.Common.{◌≡◌, ◌∙◌, rules, Some, ap}
use Rattle.encode_types.specs.declared.maps.TypeEncodingMaps.{TypeEncodingMaps}
use Rattle.encode_types.specs.{Maps.by_unit_future, View.SameRest}
use Rattle.encode_types.proofs.Agree.{learns-unit_future, changes-unit, leaves-filled}
use Rattle.encode_types.proofs.lend.remember_unit_future.Goals as goal

pub returns-clause-leaves : goal.returns-clause-leaves
returns-clause-leaves g c =
    let before : c.type_encoding_maps.result.now ≡ (g.E.ValtypeEncoder.view c.args.enc.now).maps = search rules in
    let after : (g.E.ValtypeEncoder.view (g.E.LendsMaps.with_maps c.args.enc.now c.remember_unit_future.new.self)).maps ≡ c.remember_unit_future.new.self = search rules in
    let rest : SameRest (g.E.ValtypeEncoder.view c.args.enc.now) (g.E.ValtypeEncoder.view (g.E.LendsMaps.with_maps c.args.enc.now c.remember_unit_future.new.self)) = search rules in
    let is = after ∙ c.remember_unit_future.ensures ∙ ap (λ (z : TypeEncodingMaps). record z { unit_future = Some c.args.index }) before in
    leaves-filled _ _ _ rest (changes-unit _ _ _ _ _ by_unit_future c.args.index rest.kept (learns-unit_future _ _ _ c.args.index c.requires.fresh is) c.requires.agree c.requires.stands)
