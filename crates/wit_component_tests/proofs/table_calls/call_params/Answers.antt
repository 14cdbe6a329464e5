use Rattle.encode_flat.specs.Flat.{flat_view}
use Rattle.std.proofs.Common.{refl}
use Rattle.wit_encode.proofs.Tables.{all-may-be-met, table-encodes}
use Rattle.wit_component_tests.proofs.table_calls.call_params.Goals as goal

pub encode_params-requires : goal.encode_params-requires
encode_params-requires c = λ _. (
  (refl, tt),
  (
    table-encodes c.args.resolve.now _ (flat_view c.args.table.now) c.requires.table _ (c.are_in_range.ensures c.if-not-are_in_range.false) (all-may-be-met _ _ c.requires.met _),
    c.requires.table.agree,
  ),
)
