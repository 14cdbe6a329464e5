use Rattle.encode_flat.specs.Flat.{flat_view}
use Rattle.std.proofs.Common.{refl, sym, subst, Option}
use Rattle.std.specs.Prelude.{option_to_list}
use Rattle.wit_model.specs.declared.model.«Type».{«Type» as ValueType}
use Rattle.encode_types.specs.Plan.{AllInRange}
use Rattle.wit_encode.proofs.Tables.{all-may-be-met, table-encodes}
use Rattle.wit_component_tests.proofs.table_calls.call_optional.Goals as goal

pub encode_optional_valtype-requires : goal.encode_optional_valtype-requires
encode_optional_valtype-requires c = λ _. (
  (refl, tt),
  (
    table-encodes c.args.resolve.now _ (flat_view c.args.table.now) c.requires.table _
        (subst (λ (o : Option ValueType). AllInRange c.args.resolve.now (option_to_list o)) (sym c.as_ref.ensures.value) (c.is_optional_in_range.ensures c.if-not-is_optional_in_range.false))
        (all-may-be-met _ _ c.requires.met _),
    c.requires.table.agree,
  ),
)
