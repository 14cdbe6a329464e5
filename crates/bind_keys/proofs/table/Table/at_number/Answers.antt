use Rattle.std.proofs.Common.{◌≡◌, sym, ap, ◌∙◌, map, None, Some}
use Rattle.wit_model.specs.Text.{Text, text_of}
use Rattle.bind_keys.specs.declared.table.Place.{Place}
use Rattle.bind_keys.specs.{Cuts.text_under, Encodings.encoding_at, Tables.Fronts, Tables.number_at, Tables.TableValue, Tables.whole_entries}
use Rattle.bind_keys.proofs.{Kept.kept_at, Kept.under, TableEntries.found, TableEntries.nothing_under, TableKeys.front_there}
use Rattle.bind_keys.proofs.table.Table.at_number.Goals as goal

pub returns-in-Some : goal.returns-in-Some
returns-in-Some c = λ text at apart bare.
    let fs : Fronts = map text_of c.self.inside.fronts.keys in
    let es = c.self.inside.encodings.entries in
    let name : Text = c.args.name.now in
    let key : Text = text_under text name in
    let place : Place = record { front = Some c.in-Some.number; name = c.args.name } in
    let here : number_at fs text ≡ Some c.in-Some.number = ap (λ (t : TableValue). number_at t.fronts text) c.self.view_is ∙ (sym at ∙ c.in-Some.is) in
    c.copied.ensures ∙ (c.get.ensures.value ∙ (found fs place es c.self.invariant bare (text, here, apart)
    ∙ (ap (λ t. under (text_under t name) (whole_entries fs es)) (front_there fs text name c.in-Some.number here)
    ∙ (sym (kept_at key (whole_entries fs es)) ∙ ap (λ (t : TableValue). encoding_at t.encodings key) c.self.view_is))))

pub returns-in-None : goal.returns-in-None
returns-in-None c = λ text at apart bare.
    let fs : Fronts = map text_of c.self.inside.fronts.keys in
    let es = c.self.inside.encodings.entries in
    let key : Text = text_under text c.args.name.now in
    let none : number_at fs text ≡ None = ap (λ (t : TableValue). number_at t.fronts text) c.self.view_is ∙ (sym at ∙ c.in-None.is) in
    sym (nothing_under fs text c.args.name.now es c.self.invariant bare none apart) ∙ (sym (kept_at key (whole_entries fs es)) ∙ ap (λ (t : TableValue). encoding_at t.encodings key) c.self.view_is)
