use Rattle.std.proofs.Common.{◌∙◌}
use Rattle.encode_types.proofs.Tables.{key-found, key-lacks}
use Rattle.encode_types.proofs.maps.TypeEncodingMaps.index_of_kind.Goals as goal

pub returns-clause-some : goal.returns-clause-some
returns-clause-some c = key-found c.args.self.now.def_to_index.entries c.args.list.now.0.items c.copied.result (c.copied.ensures ∙ c.get.ensures.value)

pub returns-clause-none : goal.returns-clause-none
returns-clause-none c = key-lacks c.args.self.now.def_to_index.entries c.args.list.now.0.items c.copied.result (c.copied.ensures ∙ c.get.ensures.value)
