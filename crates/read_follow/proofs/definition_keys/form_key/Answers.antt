use Rattle.std.proofs.Common.{sym, subst, ℕ, List, map, Option}
use Rattle.std.specs.Borrow.{Bor}
use Rattle.comp_bytes.specs.declared.forms.{ComponentDefinedType.ComponentDefinedType, ComponentValType.ComponentValType}
use Rattle.comp_bytes.specs.{Raw.DefinedType, RawOf.labeled, RawOf.raw_defined, RawOf.text_of}
use Rattle.read_follow.specs.DefinitionKeys.{IsKeyOf}
use Rattle.read_follow.proofs.definition_keys.form_key.Goals as goal

pub returns-in-List : goal.returns-in-List
returns-in-List c = λ form. subst (λ (d : ComponentDefinedType). IsKeyOf c.args.slots.now (raw_defined d) c.list_key.result) (sym c.in-List.is) c.list_key.ensures

pub returns-in-FixedLengthList : goal.returns-in-FixedLengthList
returns-in-FixedLengthList c = λ form. subst (λ (d : ComponentDefinedType). IsKeyOf c.args.slots.now (raw_defined d) c.fixed_list_key.result) (sym c.in-FixedLengthList.is) c.fixed_list_key.ensures

pub returns-in-Map : goal.returns-in-Map
returns-in-Map c = λ form. subst (λ (d : ComponentDefinedType). IsKeyOf c.args.slots.now (raw_defined d) c.map_key.result) (sym c.in-Map.is) c.map_key.ensures

pub returns-in-Option : goal.returns-in-Option
returns-in-Option c = λ form. subst (λ (d : ComponentDefinedType). IsKeyOf c.args.slots.now (raw_defined d) c.option_key.result) (sym c.in-Option.is) c.option_key.ensures

pub returns-in-Result : goal.returns-in-Result
returns-in-Result c = λ form. subst (λ (d : ComponentDefinedType). IsKeyOf c.args.slots.now (raw_defined d) c.result_key.result) (sym c.in-Result.is) c.result_key.ensures

pub returns-in-Own : goal.returns-in-Own
returns-in-Own c = λ form. subst (λ (d : ComponentDefinedType). IsKeyOf c.args.slots.now (raw_defined d) c.own_key.result) (sym c.in-Own.is) c.own_key.ensures

pub returns-in-Borrow : goal.returns-in-Borrow
returns-in-Borrow c = λ form. subst (λ (d : ComponentDefinedType). IsKeyOf c.args.slots.now (raw_defined d) c.borrow_key.result) (sym c.in-Borrow.is) c.borrow_key.ensures

pub returns-in-Stream : goal.returns-in-Stream
returns-in-Stream c = λ form. subst (λ (d : ComponentDefinedType). IsKeyOf c.args.slots.now (raw_defined d) c.stream_key.result) (sym c.in-Stream.is) c.stream_key.ensures

pub returns-in-Future : goal.returns-in-Future
returns-in-Future c = λ form. subst (λ (d : ComponentDefinedType). IsKeyOf c.args.slots.now (raw_defined d) c.future_key.result) (sym c.in-Future.is) c.future_key.ensures

pub returns-in-Record : goal.returns-in-Record
returns-in-Record c = λ form. subst (λ (d : ComponentDefinedType). IsKeyOf c.args.slots.now (raw_defined d) c.record_key.result) (sym c.in-Record.is)
    (subst (λ (xs : List (Bor (List ℕ) × ComponentValType)). IsKeyOf c.args.slots.now (DefinedType.record_of (map labeled xs)) c.record_key.result) c.deref.ensures.value c.record_key.ensures)

pub returns-in-Variant : goal.returns-in-Variant
returns-in-Variant c = λ form. subst (λ (d : ComponentDefinedType). IsKeyOf c.args.slots.now (raw_defined d) c.variant_key.result) (sym c.in-Variant.is)
    (subst (λ (xs : List (Bor (List ℕ) × Option ComponentValType)). IsKeyOf c.args.slots.now (DefinedType.variant_of (map labeled xs)) c.variant_key.result) c.deref-in-Variant.ensures.value
    c.variant_key.ensures)

pub returns-in-Tuple : goal.returns-in-Tuple
returns-in-Tuple c = λ form. subst (λ (d : ComponentDefinedType). IsKeyOf c.args.slots.now (raw_defined d) c.tuple_key.result) (sym c.in-Tuple.is)
    (subst (λ (xs : List ComponentValType). IsKeyOf c.args.slots.now (DefinedType.tuple_of xs) c.tuple_key.result) c.deref-in-Tuple.ensures.value c.tuple_key.ensures)

pub returns-in-Flags : goal.returns-in-Flags
returns-in-Flags c = λ form. subst (λ (d : ComponentDefinedType). IsKeyOf c.args.slots.now (raw_defined d) c.flags_key.result) (sym c.in-Flags.is)
    (subst (λ (xs : List (Bor (List ℕ))). IsKeyOf c.args.slots.now (DefinedType.flags_of (map text_of xs)) c.flags_key.result) c.deref-in-Flags.ensures.value c.flags_key.ensures)

pub returns-in-Enum : goal.returns-in-Enum
returns-in-Enum c = λ form. subst (λ (d : ComponentDefinedType). IsKeyOf c.args.slots.now (raw_defined d) c.enum_key.result) (sym c.in-Enum.is)
    (subst (λ (xs : List (Bor (List ℕ))). IsKeyOf c.args.slots.now (DefinedType.enum_of (map text_of xs)) c.enum_key.result) c.deref-in-Enum.ensures.value c.enum_key.ensures)
