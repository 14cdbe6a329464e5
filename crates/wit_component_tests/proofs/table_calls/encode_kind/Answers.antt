use Rattle.encode_flat.specs.Flat.{flat_view}
use Rattle.encode_types.specs.{Kinds.parts_of, Plan.AllInRange, Fits.CanEncode, Table.IsTableOf, Table.is_met_by, View.View}
use Rattle.wit_encode.proofs.Tables.{all-may-be-met, table-encodes, formed-as}
use Rattle.std.specs.List.{list_all}
use Rattle.std.proofs.Common.{◌≡◌, refl, subst, ap, true, List}
use Rattle.wit_model.specs.declared.model.{InterfaceId.InterfaceId, Resolve.Resolve, «Type».«Type» as ValueType}
use Rattle.wit_model.specs.declared.model.TypeOwner.TheVariants as owner
use Rattle.wit_component_tests.proofs.table_calls.encode_kind.Goals as goal

-- where all types may be met, what is in range can be encoded
encodes : (r : Resolve) (own : InterfaceId) (v : View) → IsTableOf r own v → list_all (is_met_by r (owner.Interface own)) r.types.items ≡ true
    → (ts : List ValueType) → AllInRange r ts → CanEncode r v.scope ts
encodes r own v t met ts inside = table-encodes r own v t ts inside (all-may-be-met r (owner.Interface own) met ts)

pub encode_record-requires : goal.encode_record-requires
encode_record-requires c = λ _. (
  (refl, tt),
  record {
    encodable = encodes c.args.resolve.now _ (flat_view c.args.table.now) c.requires.table c.requires.met _ (subst (AllInRange c.args.resolve.now) (ap parts_of c.in-Record.is) c.requires.in_range);
    formed = formed-as c.args.resolve.now _ _ _ c.in-Record.is refl c.requires.formed;
    agree = c.requires.table.agree;
  },
)

pub encode_tuple-requires : goal.encode_tuple-requires
encode_tuple-requires c = λ _. (
  (refl, tt),
  record {
    encodable = encodes c.args.resolve.now _ (flat_view c.args.table.now) c.requires.table c.requires.met _ (subst (AllInRange c.args.resolve.now) (ap parts_of c.in-Tuple.is) c.requires.in_range);
    formed = formed-as c.args.resolve.now _ _ _ c.in-Tuple.is refl c.requires.formed;
    agree = c.requires.table.agree;
  },
)

pub encode_variant-requires : goal.encode_variant-requires
encode_variant-requires c = λ _. (
  (refl, tt),
  record {
    encodable = encodes c.args.resolve.now _ (flat_view c.args.table.now) c.requires.table c.requires.met _ (subst (AllInRange c.args.resolve.now) (ap parts_of c.in-Variant.is) c.requires.in_range);
    formed = formed-as c.args.resolve.now _ _ _ c.in-Variant.is refl c.requires.formed;
    agree = c.requires.table.agree;
  },
)

pub encode_option-requires : goal.encode_option-requires
encode_option-requires c = λ _. (
  (refl, tt),
  record {
    encodable = encodes c.args.resolve.now _ (flat_view c.args.table.now) c.requires.table c.requires.met _ (subst (AllInRange c.args.resolve.now) (ap parts_of c.in-Option.is) c.requires.in_range);
    formed = formed-as c.args.resolve.now _ _ _ c.in-Option.is refl c.requires.formed;
    agree = c.requires.table.agree;
  },
)

pub encode_result-requires : goal.encode_result-requires
encode_result-requires c = λ _. (
  (refl, tt),
  record {
    encodable = encodes c.args.resolve.now _ (flat_view c.args.table.now) c.requires.table c.requires.met _ (subst (AllInRange c.args.resolve.now) (ap parts_of c.in-Result.is) c.requires.in_range);
    formed = formed-as c.args.resolve.now _ _ _ c.in-Result.is refl c.requires.formed;
    agree = c.requires.table.agree;
  },
)

pub encode_future-requires : goal.encode_future-requires
encode_future-requires c = λ _. (
  (refl, tt),
  record {
    encodable = encodes c.args.resolve.now _ (flat_view c.args.table.now) c.requires.table c.requires.met _ (subst (AllInRange c.args.resolve.now) (ap parts_of c.in-Future.is) c.requires.in_range);
    formed = formed-as c.args.resolve.now _ _ _ c.in-Future.is refl c.requires.formed;
    agree = c.requires.table.agree;
  },
)

pub encode_stream-requires : goal.encode_stream-requires
encode_stream-requires c = λ _. (
  (refl, tt),
  record {
    encodable = encodes c.args.resolve.now _ (flat_view c.args.table.now) c.requires.table c.requires.met _ (subst (AllInRange c.args.resolve.now) (ap parts_of c.in-Stream.is) c.requires.in_range);
    formed = formed-as c.args.resolve.now _ _ _ c.in-Stream.is refl c.requires.formed;
    agree = c.requires.table.agree;
  },
)

pub encode_flags-requires : goal.encode_flags-requires
encode_flags-requires c = λ _. ((refl, tt), formed-as c.args.resolve.now _ _ _ c.in-Flags.is refl c.requires.formed)

pub encode_enum-requires : goal.encode_enum-requires
encode_enum-requires c = λ _. ((refl, tt), formed-as c.args.resolve.now _ _ _ c.in-Enum.is refl c.requires.formed)
