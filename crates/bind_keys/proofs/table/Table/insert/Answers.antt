use Rattle.std.proofs.Common.{sym, ap, subst, ◌∙◌, [], ◌∷◌, map}
use Rattle.wit_model.specs.Text.{text_of}
use Rattle.bind_keys.specs.{Encodings.kept_encodings, KeyLists.Puts}
use Rattle.bind_keys.specs.Tables.{Fronts, IsProper, IsTable, KeyEntries, TableValue, whole, whole_entries}
use Rattle.bind_keys.proofs.{Kept.puts, TableEntries.put_proper, TableEntries.put_whole}
use Rattle.bind_keys.proofs.table.Table.insert.Goals as goal

pub invariant_of-self-2 : goal.invariant_of-self-2
invariant_of-self-2 c =
    let fs : Fronts = map text_of c.self.inside.fronts.keys in
    let proper : IsProper fs c.args.key = subst (λ (t : TableValue). IsProper t.fronts c.args.key) (sym c.self.view_is) c.requires in
    subst (λ (es : KeyEntries). IsTable fs es) (sym c.in_ok-insert.ensures.entries) (put_proper fs c.args.key c.args.encoding proper c.self.inside.encodings.entries c.self.invariant)

pub returns-clause-ok : goal.returns-clause-ok
returns-clause-ok c =
    let fs : Fronts = map text_of c.self.inside.fronts.keys in
    let es = c.self.inside.encodings.entries in
    let key = c.args.key in
    let new = c.insert.new.self.entries in
    let proper : IsProper fs key = subst (λ (t : TableValue). IsProper t.fronts key) (sym c.self.view_is) c.requires in
    subst (λ (t : TableValue). Puts ((whole t.fronts key, c.args.encoding) ∷ []) t.encodings (kept_encodings (whole_entries fs new))) c.self.view_is
    (puts (whole_entries fs es) (whole_entries fs new) (whole fs key) c.args.encoding
    (ap (whole_entries fs) c.in_ok-insert.ensures.entries ∙ put_whole fs key c.args.encoding proper es c.self.invariant))
