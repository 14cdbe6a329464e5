use Rattle.std.proofs.Common.{[], ◌∷◌, option_to_list}
use Rattle.encode_types.proofs.Written.{ready-one, ready-left, ready-right, record-follows, variant-follows, tuple-follows, option-follows, list-follows, fixed-follows, map-follows, result-follows, future-follows, stream-follows}
use Rattle.encode_types.proofs.definition.definition.Goals as goal

pub fields_in-requires : goal.fields_in-requires
fields_in-requires c = rw c.deref.ensures.value (rw c.in-Record.is at c.requires)

pub values_in-requires : goal.values_in-requires
values_in-requires c = rw c.deref-in-Tuple.ensures.value (rw c.in-Tuple.is at c.requires)

pub cases_in-requires : goal.cases_in-requires
cases_in-requires c = rw c.deref-in-Variant.ensures.value (rw c.in-Variant.is at c.requires)

pub value_in-requires : goal.value_in-requires
value_in-requires c = ready-one c.args.maps.now c.in-Option.ty (rw c.in-Option.is at c.requires)

pub optional_in-ok-requires : goal.optional_in-ok-requires
optional_in-ok-requires c = ready-left c.args.maps.now (option_to_list c.in-Result.result.now.ok) (option_to_list c.in-Result.result.now.err) (rw c.in-Result.is at c.requires)

pub optional_in-err-requires : goal.optional_in-err-requires
optional_in-err-requires c = ready-right c.args.maps.now (option_to_list c.in-Result.result.now.ok) (option_to_list c.in-Result.result.now.err) (rw c.in-Result.is at c.requires)

pub value_in-requires-in-List : goal.value_in-requires-in-List
value_in-requires-in-List c = ready-one c.args.maps.now c.in-List.ty (rw c.in-List.is at c.requires)

pub value_in-key-requires : goal.value_in-key-requires
value_in-key-requires c = ready-one c.args.maps.now c.in-Map.key (ready-left c.args.maps.now (c.in-Map.key ∷ []) (c.in-Map.value ∷ []) (rw c.in-Map.is at c.requires))

pub value_in-value-requires : goal.value_in-value-requires
value_in-value-requires c = ready-one c.args.maps.now c.in-Map.value (ready-right c.args.maps.now (c.in-Map.key ∷ []) (c.in-Map.value ∷ []) (rw c.in-Map.is at c.requires))

pub value_in-value-requires-in-FixedLengthList : goal.value_in-value-requires-in-FixedLengthList
value_in-value-requires-in-FixedLengthList c = ready-one c.args.maps.now c.in-FixedLengthList.ty (rw c.in-FixedLengthList.is at c.requires)

pub optional_in-requires : goal.optional_in-requires
optional_in-requires c = rw c.in-Future.is at c.requires

pub optional_in-requires-in-Stream : goal.optional_in-requires-in-Stream
optional_in-requires-in-Stream c = rw c.in-Stream.is at c.requires

pub handle_in-requires : goal.handle_in-requires
handle_in-requires c = rw c.in-Handle.is at c.requires

pub returns-in_ok-fields-in-Record : goal.returns-in_ok-fields-in-Record
returns-in_ok-fields-in-Record c = rw c.in-Record.is (record-follows c.args.maps.now c.in-Record.record.now c.in_ok-fields-in-Record.fields
    (rw c.deref.ensures.value at c.in_ok-fields-in-Record.ensures))

pub returns-in_ok-values-in-Tuple : goal.returns-in_ok-values-in-Tuple
returns-in_ok-values-in-Tuple c = rw c.in-Tuple.is (tuple-follows c.args.maps.now c.in-Tuple.tuple.now c.in_ok-values-in-Tuple.values
    (rw c.deref-in-Tuple.ensures.value at c.in_ok-values-in-Tuple.ensures))

pub returns-in_ok-cases-in-Variant : goal.returns-in_ok-cases-in-Variant
returns-in_ok-cases-in-Variant c = rw c.in-Variant.is (variant-follows c.args.maps.now c.in-Variant.variant.now c.in_ok-cases-in-Variant.cases
    (rw c.deref-in-Variant.ensures.value at c.in_ok-cases-in-Variant.ensures))

pub returns-in-Option : goal.returns-in-Option
returns-in-Option c = rw c.in-Option.is (option-follows c.args.maps.now c.in-Option.ty _ c.value_in.ensures)

pub returns-in-Result : goal.returns-in-Result
returns-in-Result c = rw c.in-Result.is (result-follows c.args.maps.now c.in-Result.result.now _ _ c.optional_in-ok.ensures c.optional_in-err.ensures)

pub returns-in-List : goal.returns-in-List
returns-in-List c = rw c.in-List.is (list-follows c.args.maps.now c.in-List.ty _ c.value_in-in-List.ensures)

pub returns-in-Map : goal.returns-in-Map
returns-in-Map c = rw c.in-Map.is (map-follows c.args.maps.now c.in-Map.key c.in-Map.value _ _ c.value_in-key.ensures c.value_in-value.ensures)

pub returns-in-FixedLengthList : goal.returns-in-FixedLengthList
returns-in-FixedLengthList c = rw c.in-FixedLengthList.is (fixed-follows c.args.maps.now c.in-FixedLengthList.ty c.in-FixedLengthList.length _ c.value_in-value-in-FixedLengthList.ensures)

pub returns-in-Future : goal.returns-in-Future
returns-in-Future c = rw c.in-Future.is (future-follows c.args.maps.now c.in-Future.ty _ c.optional_in.ensures)

pub returns-in-Stream : goal.returns-in-Stream
returns-in-Stream c = rw c.in-Stream.is (stream-follows c.args.maps.now c.in-Stream.ty _ c.optional_in-in-Stream.ensures)
