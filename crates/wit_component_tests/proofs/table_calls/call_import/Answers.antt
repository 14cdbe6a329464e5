use Rattle.encode_flat.specs.Flat.{flat_view}
use Rattle.std.proofs.Common.{ap, refl}
use Rattle.encode_types.specs.Scope.{Scope}
use Rattle.wit_encode.proofs.Tables.{table-imports}
use Rattle.wit_component_tests.proofs.table_calls.call_import.Goals as goal

pub maybe_import_type-requires : goal.maybe_import_type-requires
maybe_import_type-requires c = λ _. (
  (refl, tt),
  (
    ap (λ (s : Scope). s.packages) c.requires.table.scope_,
    (c.is_number.ensures c.if-not-is_number.false, (λ def i is f. table-imports c.args.resolve.now _ (flat_view c.args.table.now) c.requires.table c.args.id.0 def i is f)),
  ),
)
