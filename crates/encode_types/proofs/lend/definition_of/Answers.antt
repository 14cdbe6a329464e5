use Rattle.std.proofs.Common.{◌≡◌, rules}
use Rattle.encode_types.proofs.lend.definition_of.Goals as goal

pub definition-requires : goal.definition-requires
definition-requires g c = let same : c.type_encoding_maps.result.now ≡ (g.E.ValtypeEncoder.view c.args.enc.now).maps = search rules in rw same c.requires
