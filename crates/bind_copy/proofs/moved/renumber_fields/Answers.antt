use Rattle.std.proofs.Common.{rules, ◌≡◌, ◌<◌, ◌∙◌, ap, sym, refl, true, length, slice_get, Some}
use Rattle.std.proofs.lemmas.Option.{slice_get_read}
use Rattle.bind_copy.specs.Copies.{are_fields_below, number_under, IsFieldUnder}
use Rattle.bind_union.specs.Views.{renamed_type}
use Rattle.wit_model.specs.Text.{optional_text, text_of}
use Rattle.wit_model.specs.declared.model.Field.{Field}
use Rattle.bind_copy.proofs.{Members.fields_later, Members.fields_are, Members.field_docs_are, Written.all_written, Written.item_written, Written.none_written}
use Rattle.bind_copy.proofs.moved.renumber_fields.Goals as goal

pub loop-field-init : goal.loop-field-init
loop-field-init c = none_written (IsFieldUnder c.args.numbers.now) (λ xs. are_fields_below (length c.args.numbers.now) xs ≡ true) c.args.fields.now c.requires

pub loop-field-preserved : goal.loop-field-preserved
loop-field-preserved c =
    let numbers = c.args.numbers.now in
    let now = c.loop-field.fields in
    let n = c.loop-field.field-index in
    let x = c.field-item.result in
    let within : n < length now = search rules in
    let here : slice_get now n ≡ Some x = slice_get_read now _ n x refl within c.field-item.is in
    item_written (IsFieldUnder numbers) (λ xs. are_fields_below (length numbers) xs ≡ true) (fields_later (length numbers)) c.args.fields.now now _ n x _ here (λ xs left. (
      ap (λ (p : Field). text_of p.name) (sym c.field-item.is),
      (c.image_of-field.ensures ∙ ap (λ (p : Field). renamed_type (number_under numbers) p.ty) (sym c.field-item.is), ap (λ (p : Field). optional_text p.docs.contents) (sym c.field-item.is)),
    ))
    refl c.loop-field.invariant

pub returns-clause-fields : goal.returns-clause-fields
returns-clause-fields c =
    let numbers = c.args.numbers.now in
    fields_are numbers c.args.fields.now c.loop-field.fields
    (all_written (IsFieldUnder numbers) (λ xs. are_fields_below (length numbers) xs ≡ true) c.args.fields.now c.loop-field.fields c.loop-field.field-index (search rules) c.loop-field.invariant)

pub returns-clause-docs : goal.returns-clause-docs
returns-clause-docs c =
    let numbers = c.args.numbers.now in
    field_docs_are numbers c.args.fields.now c.loop-field.fields
    (all_written (IsFieldUnder numbers) (λ xs. are_fields_below (length numbers) xs ≡ true) c.args.fields.now c.loop-field.fields c.loop-field.field-index (search rules) c.loop-field.invariant)
