use Rattle.std.proofs.Common.{sym, ap, subst, ◌∙◌, [], ◌∷◌, OnOk}
use Rattle.wit_model.specs.Text.{Text}
use Rattle.bind_keys.specs.{Cuts.has_slash, Cuts.text_under, KeyLists.Puts, Tables.front_text, Tables.IsFront}
use Rattle.bind_keys.proofs.TableEntries.{number_proper}
use Rattle.bind_keys.proofs.table.Table.put_bare.Goals as goal

pub insert-requires : goal.insert-requires
insert-requires c =
    let fs = c.args.self.now.fronts in
    let name = c.in_ok-from_str.ensures.ok in
    let number = number_proper fs c.args.front.text.now c.args.front.number c.args.name.now c.requires.stands in
    let front : IsFront fs c.number_before.result c.args.name.now = subst (λ n. IsFront fs n c.args.name.now) (sym c.number_before.ensures) number.0 in
    (ap has_slash name ∙ c.requires.bare, subst (λ (t : Text). IsFront fs c.number_before.result t) (sym name) front)

pub returns-clause-ok : goal.returns-clause-ok
returns-clause-ok c =
    let fs = c.args.self.now.fronts in
    let text : Text = c.args.front.text.now in
    let name = c.in_ok-from_str.ensures.ok in
    let number = number_proper fs text c.args.front.number c.args.name.now c.requires.stands in
    let is = ap (λ t. text_under (front_text fs c.number_before.result t) t) name
    ∙ ap (λ t. text_under t c.args.name.now) (ap (λ n. front_text fs n c.args.name.now) c.number_before.ensures ∙ number.1) in
    subst (λ (t : Text). OnOk c.insert.result (Puts ((t, c.args.encoding) ∷ []) c.args.self.now.encodings c.insert.new.self.encodings)) is c.insert.ensures.ok
