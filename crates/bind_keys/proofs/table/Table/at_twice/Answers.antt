use Rattle.std.proofs.Common.{sym, ap, ◌∙◌, map, None}
use Rattle.wit_model.specs.Text.{Text, text_of}
use Rattle.bind_keys.specs.declared.table.Place.{Place}
use Rattle.bind_keys.specs.{Cuts.text_under, Encodings.encoding_at, Tables.Fronts, Tables.TableValue, Tables.whole_entries}
use Rattle.bind_keys.proofs.{Kept.kept_at, TableEntries.found}
use Rattle.bind_keys.proofs.table.Table.at_twice.Goals as goal

pub returns : goal.returns
returns c = λ bare.
    let fs : Fronts = map text_of c.self.inside.fronts.keys in
    let es = c.self.inside.encodings.entries in
    let place : Place = record { front = None; name = c.args.name } in
    let key : Text = text_under c.args.name.now c.args.name.now in
    c.copied.ensures ∙ (c.get.ensures.value ∙ (found fs place es c.self.invariant bare tt
    ∙ (sym (kept_at key (whole_entries fs es)) ∙ ap (λ (t : TableValue). encoding_at t.encodings key) c.self.view_is)))
