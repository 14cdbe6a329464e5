use Rattle.std.proofs.Common.{◌≡◌, rules}
use Rattle.encode_types.proofs.lend.index_of_key.Goals as goal

pub returns-clause-none : goal.returns-clause-none
returns-clause-none g c = let same : c.type_encoding_maps.result.now ≡ (g.E.ValtypeEncoder.view c.args.enc.now).maps = search rules in rw same at c.index_of_key.ensures.none
