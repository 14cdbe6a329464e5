use Rattle.std.specs.List.{Contains}
use Rattle.encode_types.proofs.Tables.{some-where}
use Rattle.encode_types.proofs.maps.TypeEncodingMaps.index_of.Goals as goal

pub returns-clause-none : goal.returns-clause-none
returns-clause-none c = λ k. some-where c.get.result (λ i. Contains c.args.self.now.id_to_index.entries (c.args.id.0, i)) c.get.ensures.none k
