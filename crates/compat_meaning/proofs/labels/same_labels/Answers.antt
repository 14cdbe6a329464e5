use Rattle.std.proofs.Common.{Bor, List, ℕ, ◌∙◌, sym}
use Rattle.std.specs.Cmp.Derive.Mapped.{pointwise-map}
use Rattle.wit_model.specs.Text.{text_eq}
use Rattle.wit_model.proofs.TextLemmas.{text_alike, text_same}
use Rattle.compat_meaning.proofs.Outlines.{items_same, items_differ}
use Rattle.compat_meaning.proofs.labels.same_labels.Goals as goal

pub returns-clause-same : goal.returns-clause-same
returns-clause-same c = λ e. items_same text_eq text_same _ _ (pointwise-map (λ (s : Bor (List ℕ)). s.now) text_eq c.args.prev.now c.args.new.now ∙ sym c.eq.ensures ∙ e)

pub returns-clause-differ : goal.returns-clause-differ
returns-clause-differ c = λ e. items_differ text_eq text_alike _ _ (pointwise-map (λ (s : Bor (List ℕ)). s.now) text_eq c.args.prev.now c.args.new.now ∙ sym c.eq.ensures ∙ e)
