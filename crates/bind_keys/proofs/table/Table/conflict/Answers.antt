use Rattle.std.proofs.Common.{rules, ◌≡◌, sym, ap, subst, ◌∙◌, map, None, Option}
use Rattle.std.proofs.lemmas.Map.Iter.{rest_more}
use Rattle.std.specs.{List.IsDistinct, Map.keys_of, Map.Iter.deref_pair}
use Rattle.wit_model.specs.Text.{Text, optional_text, text_of}
use Rattle.bind_meaning.specs.Clash.{EncodingFault}
use Rattle.bind_clash.specs.Faults.{IsLeastFault, least_of}
use Rattle.bind_keys.specs.contracts.table.KeyPartialEq.TheImpl as equality
use Rattle.bind_keys.specs.Tables.{Fronts, IsTable, KeyEntries, TableValue, whole_entries}
use Rattle.bind_keys.proofs.{Conflicts.least_from, Conflicts.least_is, TableEntries.distinct_too}
use Rattle.bind_keys.proofs.table.Table.conflict.Goals as goal

pub loop-key-init : goal.loop-key-init
loop-key-init c =
    let fs : Fronts = map text_of c.other.inside.fronts.keys in
    let es = c.other.inside.encodings.entries in
    let m = c.args.self.now.encodings in
    let whole : c.into_iter-key-iterator.result ≡ es = search rules in
    let unique : IsDistinct equality.ghosts.eq (keys_of es) = search rules in
    subst (λ (xs : KeyEntries). IsTable c.args.other.now.fronts xs × IsLeastFault (EncodingFault m c.args.other.now.encodings) (least_from m None (whole_entries c.args.other.now.fronts xs)))
    (sym whole) (subst (λ (t : TableValue). IsTable t.fronts es × IsLeastFault (EncodingFault m t.encodings) (least_from m None (whole_entries t.fronts es))) c.other.view_is
    (c.other.invariant, least_is m (whole_entries fs es) (distinct_too fs es c.other.invariant unique)))

pub loop-key-preserved : goal.loop-key-preserved
loop-key-preserved c =
    let fs = c.args.other.now.fronts in
    let m = c.args.self.now.encodings in
    let next = rest_more deref_pair c.loop-key.key-iterator c.next.new.self c.next.result (c.in-Some.key, c.in-Some.encoding) c.in-Some.is c.next.ensures.steps in
    let all = subst (λ (xs : KeyEntries). IsTable fs xs) next c.loop-key.invariant.0 in
    let least = ap (λ o. least_of (optional_text c.loop-key.least) o) (sym c.in_ok-found.ensures.ok) ∙ sym c.lesser-least.ensures in (
      all.1,
      subst (λ (o : Option Text). IsLeastFault (EncodingFault m c.args.other.now.encodings) (least_from m o (whole_entries fs c.next.new.self))) least
          (subst (λ (xs : KeyEntries). IsLeastFault (EncodingFault m c.args.other.now.encodings) (least_from m (optional_text c.loop-key.least) (whole_entries fs xs))) next c.loop-key.invariant.1),
    )

pub returns-clause-least : goal.returns-clause-least
returns-clause-least c =
    let m = c.args.self.now.encodings in
    subst (λ (xs : KeyEntries). IsLeastFault (EncodingFault m c.args.other.now.encodings) (least_from m (optional_text c.loop-key.least) (whole_entries c.args.other.now.fronts xs)))
    c.in-None.ensures.steps.0 c.loop-key.invariant.1
