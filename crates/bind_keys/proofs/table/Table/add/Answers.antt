use Rattle.std.proofs.Common.{◌≡◌, sym, subst, ◌∙◌, map, Some}
use Rattle.wit_model.specs.Text.{text_of}
use Rattle.bind_keys.specs.{Encodings.kept_encodings, Unions.Gains}
use Rattle.bind_keys.specs.Tables.{all_renumbered, Fronts, IsTable, KeyEntries, numbers_among, TableValue, whole_entries}
use Rattle.bind_keys.proofs.TableMeet.{all_gained, all_proper, renumbered_proper}
use Rattle.bind_keys.proofs.table.Table.add.Goals as goal

pub invariant_of-self : goal.invariant_of-self
invariant_of-self c =
    let fs : Fronts = map text_of c.self.inside.fronts.keys in
    let gs : Fronts = map text_of c.more.inside.fronts.keys in
    let ns = c.args.numbers.now in
    let numbers : map Some ns ≡ numbers_among fs gs = c.requires.numbers ∙ (λ i. numbers_among ((sym c.self.view_is i).fronts) ((sym c.more.view_is i).fronts)) in
    subst (λ (es : KeyEntries). IsTable fs es) (sym c.add_entries.ensures.added)
    (all_proper fs c.self.inside.encodings.entries (all_renumbered ns c.more.inside.encodings.entries) c.self.invariant
    (renumbered_proper fs gs ns numbers c.more.inside.encodings.entries c.more.invariant))

pub returns : goal.returns
returns c =
    let fs : Fronts = map text_of c.self.inside.fronts.keys in
    let gs : Fronts = map text_of c.more.inside.fronts.keys in
    let ns = c.args.numbers.now in
    let numbers : map Some ns ≡ numbers_among fs gs = c.requires.numbers ∙ (λ i. numbers_among ((sym c.self.view_is i).fronts) ((sym c.more.view_is i).fronts)) in
    let new = kept_encodings (whole_entries fs c.add_entries.new.entries.entries) in
    subst (λ (t : TableValue). Gains t.encodings c.args.self.now.encodings new) c.more.view_is
    (subst (λ (t : TableValue). Gains (kept_encodings (whole_entries gs c.more.inside.encodings.entries)) t.encodings new) c.self.view_is
    (all_gained fs gs ns numbers c.self.inside.encodings.entries c.more.inside.encodings.entries c.add_entries.new.entries.entries c.self.invariant c.more.invariant c.add_entries.ensures.distinct
    c.add_entries.ensures.added))
