use Rattle.std.proofs.Common.{◌∙◌, ap, Bool, ℕ, List, map}
use Rattle.std.specs.Borrow.{Bor}
use Rattle.comp_meaning.specs.Rules.{are_labels}
use Rattle.read_follow.proofs.facts.fact_of.Goals as goal

pub returns : goal.returns
returns c = λ trees holds shape.
    c.labelled_fact.ensures trees holds shape (c.in_ok-has_good_labels.ensures ∙ ap (λ (ls : List (Bor (List ℕ) × Bool)). are_labels (map (λ l. l.0.now) ls)) c.deref.ensures.value)
