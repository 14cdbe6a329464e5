use Rattle.std.proofs.Common.{◌≡◌, rules}
use Rattle.encode_types.proofs.lend.params_of.Goals as goal

pub params_in-requires : goal.params_in-requires
params_in-requires g c = let same : c.type_encoding_maps.result.now ≡ (g.E.ValtypeEncoder.view c.args.enc.now).maps = search rules in rw same c.requires
