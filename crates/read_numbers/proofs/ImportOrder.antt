-- The order in which imports came into the table.
use Rattle.std.proofs.Common.{inl, inr, ap, ◌∙◌, subst, List, map, Some}
use Rattle.wit_model.specs.Text.{Text}
use Rattle.plan_meaning.specs.NumberedWorlds.{NumberedSeen, NumberedShown}
use Rattle.read_numbers.specs.PlacedNumbers.{ImportsComeLast, IsCountedItem}
use Rattle.base_lemmas.proofs.Lists.{mapped_get}
use Rattle.comp_meaning.proofs.RulesLemmas.{not_twice}

pub imports_come_last : ImportsComeLast
imports_come_last t w h apart j c s d at here is =
    let keys : List Text = map (λ (x : NumberedSeen). x.key) w.imports in
    let key = mapped_get (λ (x : NumberedSeen). x.key) w.imports in
    let item = subst (λ (x : NumberedShown). IsCountedItem t w h.counts j c s.key x) is (h.counted j c s at here).item in
    elim item [ inl b ↦ absurd (not_twice keys apart b.number j s.key b.earlier (key b.number b.seen b.at ∙ ap Some b.key) (key j s at)) | inr l ↦ l ]
