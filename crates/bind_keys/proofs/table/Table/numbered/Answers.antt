use Rattle.std.proofs.Common.{sym, ap, subst, ◌∙◌, map, List, String, Some}
use Rattle.std.specs.Prelude.{string_eq}
use Rattle.std.specs.declared.alloc.Global.{Global}
use Rattle.indexmap.specs.IndexSet.{insert_key}
use Rattle.wit_model.specs.Text.{text_of}
use Rattle.bind_keys.specs.{Encodings.kept_encodings, Tables.Keeps, Tables.number_at, Tables.TableValue}
use Rattle.bind_keys.proofs.{TableEntries.table_kept, TableEntries.whole_kept, TableMeet.key_stands, TableMeet.keys_stay}
use Rattle.bind_keys.proofs.table.Table.numbered.Goals as goal

pub invariant_of-self-2 : goal.invariant_of-self-2
invariant_of-self-2 c =
    let keys = c.self.inside.fronts.keys in
    let keeps = subst (λ (ks : List (String Global)). Keeps (map text_of keys) (map text_of ks)) (sym c.in_ok-number.ensures.keys) (keys_stay keys c.in_ok-from_str.field-0) in
    table_kept (map text_of keys) (map text_of c.insert_full.new.self.keys) keeps c.self.inside.encodings.entries c.self.invariant

pub returns-clause-same : goal.returns-clause-same
returns-clause-same c =
    let keys = c.self.inside.fronts.keys in
    let keeps = subst (λ (ks : List (String Global)). Keeps (map text_of keys) (map text_of ks)) (sym c.in_ok-number.ensures.keys) (keys_stay keys c.in_ok-from_str.field-0) in
    ap kept_encodings (whole_kept (map text_of keys) (map text_of c.insert_full.new.self.keys) keeps c.self.inside.encodings.entries c.self.invariant)
    ∙ ap (λ (t : TableValue). t.encodings) c.self.view_is

pub returns-clause-keeps : goal.returns-clause-keeps
returns-clause-keeps c =
    let keys = c.self.inside.fronts.keys in
    let keeps = subst (λ (ks : List (String Global)). Keeps (map text_of keys) (map text_of ks)) (sym c.in_ok-number.ensures.keys) (keys_stay keys c.in_ok-from_str.field-0) in
    subst (λ (t : TableValue). Keeps t.fronts (map text_of c.insert_full.new.self.keys)) c.self.view_is keeps

pub returns-clause-stands : goal.returns-clause-stands
returns-clause-stands c = ap (λ (ks : List (String Global)). number_at (map text_of ks) c.args.text.now) c.in_ok-number.ensures.keys
    ∙ (ap (λ t. number_at (map text_of (insert_key string_eq c.self.inside.fronts.keys c.in_ok-from_str.field-0)) t) (sym c.in_ok-from_str.ensures.ok)
    ∙ (key_stands c.self.inside.fronts.keys c.in_ok-from_str.field-0 ∙ ap Some (sym c.in_ok-number.ensures.index)))
