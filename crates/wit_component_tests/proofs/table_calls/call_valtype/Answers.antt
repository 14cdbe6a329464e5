use Rattle.encode_flat.specs.Flat.{flat_view}
use Rattle.std.proofs.Common.{refl, ◌∙◌, ◌∷◌, []}
use Rattle.wit_encode.proofs.Tables.{all-may-be-met, table-encodes}
use Rattle.wit_component_tests.proofs.table_calls.call_valtype.Goals as goal
use Rattle.base_lemmas.proofs.Elements.{last_of as one-contained}

pub encode_valtype-requires : goal.encode_valtype-requires
encode_valtype-requires c = λ _. (
  (refl, tt),
  (
    table-encodes c.args.resolve.now _ (flat_view c.args.table.now) c.requires.table (c.args.ty ∷ [])
        (λ t q id e. c.is_in_range.ensures c.if-not-is_in_range.false id (one-contained c.args.ty t q ∙ e)) (all-may-be-met _ _ c.requires.met (c.args.ty ∷ [])),
    c.requires.table.agree,
  ),
)
