use Rattle.std.proofs.Common.{rules, ◌≡◌, ◌<◌, ◌∙◌, ap, sym, refl, true, length, slice_get, Some, option_map}
use Rattle.std.proofs.lemmas.Option.{slice_get_read}
use Rattle.bind_copy.specs.Copies.{are_cases_below, number_under, IsCaseUnder}
use Rattle.bind_union.specs.Views.{renamed_type}
use Rattle.wit_model.specs.Text.{optional_text, text_of}
use Rattle.wit_model.specs.declared.model.Case.{Case}
use Rattle.bind_copy.proofs.{Members.cases_later, Members.cases_are, Members.case_docs_are, Written.all_written, Written.item_written, Written.none_written}
use Rattle.bind_copy.proofs.moved.renumber_cases.Goals as goal

pub loop-case-init : goal.loop-case-init
loop-case-init c = none_written (IsCaseUnder c.args.numbers.now) (λ xs. are_cases_below (length c.args.numbers.now) xs ≡ true) c.args.cases.now c.requires

pub loop-case-preserved : goal.loop-case-preserved
loop-case-preserved c =
    let numbers = c.args.numbers.now in
    let now = c.loop-case.cases in
    let n = c.loop-case.case-index in
    let x = c.case-item.result in
    let within : n < length now = search rules in
    let here : slice_get now n ≡ Some x = slice_get_read now _ n x refl within c.case-item.is in
    item_written (IsCaseUnder numbers) (λ xs. are_cases_below (length numbers) xs ≡ true) (cases_later (length numbers)) c.args.cases.now now _ n x _ here (λ xs left. (
      ap (λ (p : Case). text_of p.name) (sym c.case-item.is),
      (
        c.optional_image-case.ensures ∙ ap (λ (p : Case). option_map (renamed_type (number_under numbers)) p.ty) (sym c.case-item.is),
        ap (λ (p : Case). optional_text p.docs.contents) (sym c.case-item.is),
      ),
    ))
    refl c.loop-case.invariant

pub returns-clause-cases : goal.returns-clause-cases
returns-clause-cases c =
    let numbers = c.args.numbers.now in
    cases_are numbers c.args.cases.now c.loop-case.cases
    (all_written (IsCaseUnder numbers) (λ xs. are_cases_below (length numbers) xs ≡ true) c.args.cases.now c.loop-case.cases c.loop-case.case-index (search rules) c.loop-case.invariant)

pub returns-clause-docs : goal.returns-clause-docs
returns-clause-docs c =
    let numbers = c.args.numbers.now in
    case_docs_are numbers c.args.cases.now c.loop-case.cases
    (all_written (IsCaseUnder numbers) (λ xs. are_cases_below (length numbers) xs ≡ true) c.args.cases.now c.loop-case.cases c.loop-case.case-index (search rules) c.loop-case.invariant)
