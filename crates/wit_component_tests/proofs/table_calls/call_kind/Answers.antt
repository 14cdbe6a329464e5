use Rattle.encode_flat.specs.Flat.{flat_view}
use Rattle.std.proofs.{Common.refl, lemmas.Option.slice_get_read}
use Rattle.wit_encode.proofs.Tables.{all-may-be-met, table-parts, table-formed}
use Rattle.wit_component_tests.proofs.table_calls.call_kind.Goals as goal

pub encode_kind-requires-clause-in_range : goal.encode_kind-requires-clause-in_range
encode_kind-requires-clause-in_range c =
    let inside = c.is_number.ensures c.if-not-is_number.false in
    table-parts c.args.resolve.now c.requires.table.valid c.args.id.0 c.index.result.now inside
    (slice_get_read c.args.resolve.now.types.items _ c.args.id.0 c.index.result.now refl inside c.index.ensures)

pub encode_kind-requires-clause-formed : goal.encode_kind-requires-clause-formed
encode_kind-requires-clause-formed c =
    let inside = c.is_number.ensures c.if-not-is_number.false in
    table-formed c.args.resolve.now _ (flat_view c.args.table.now) c.requires.table c.args.id.0 c.index.result.now inside
    (slice_get_read c.args.resolve.now.types.items _ c.args.id.0 c.index.result.now refl inside c.index.ensures) (all-may-be-met _ _ c.requires.met _)
