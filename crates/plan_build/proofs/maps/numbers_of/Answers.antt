use Rattle.std.proofs.{Common.◌∙◌, Common.refl, Common.ap, Common.map, lemmas.List.take_all}
use Rattle.std.specs.Prelude.{string_eq}
use Rattle.wit_model.specs.Text.{text_of, text_eq}
use Rattle.wit_model.proofs.Distinct.{text_eq_flip}
use Rattle.plan_build.specs.PlanOf.{built_number, stated_number}
use Rattle.plan_build.proofs.{Mapping.entry_more, Named.texts_differ}
use Rattle.plan_build.proofs.maps.numbers_of.Goals as goal

pub loop-entry-preserved : goal.loop-entry-preserved
loop-entry-preserved g c =
    let xs = c.args.entries.now in
    let i = c.loop-entry.entry-index in
    let x = c.entry-item.result in
    λ apart. entry_more text_eq text_eq_flip string_eq text_of (λ a b. refl) (λ n. n) stated_number c.loop-entry.built.entries c.insert.new.self.entries xs i x c.in_ok-name.name x.1
    c.loop-entry-test.true c.entry-item.is
    c.in_ok-insert.ensures.entries c.in_ok-name.ensures (texts_differ (map (λ e. e.0.now) xs) ∙ apart) (c.loop-entry.invariant apart) refl

pub returns : goal.returns
returns g c = λ apart. ap (map (built_number {N = g.row.N.Denot})) c.shrink_to_fit.ensures.entries ∙ c.loop-entry.invariant apart ∙ ap (map stated_number)
    (take_all c.loop-entry.entry-index c.args.entries.now c.loop-entry-test.false)
