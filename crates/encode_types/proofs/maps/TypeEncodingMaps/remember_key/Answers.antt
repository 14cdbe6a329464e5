use Rattle.std.proofs.Common.{refl}
use Rattle.encode_types.proofs.Tables.{key-inserted}
use Rattle.encode_types.proofs.maps.TypeEncodingMaps.remember_key.Goals as goal

pub returns-clause-ok : goal.returns-clause-ok
returns-clause-ok c = record {
  rest = record { numbers = refl; kinds = refl; keys = refl; names_ = refl; unit_future_ = refl; unit_stream_ = refl };
  more = key-inserted c.args.self.now.func_type_map.entries c.insert.new.self.entries c.args.list c.args.index c.requires c.in_ok-insert.ensures.entries;
}
