use Rattle.std.proofs.{Common.rules, Common.◌∙◌, Common.sym, Math.Bool.beq}
use Rattle.base_lemmas.proofs.Bools.{beq_same}
use Rattle.compat_meaning.proofs.Outlines.{items_same, items_differ}
use Rattle.compat_meaning.proofs.labels.same_marks.Goals as goal

pub returns-clause-same : goal.returns-clause-same
returns-clause-same c = λ e. items_same beq beq_same _ _ (sym c.eq.ensures ∙ e)

pub returns-clause-differ : goal.returns-clause-differ
returns-clause-differ c = λ e. items_differ beq (λ b. search rules) _ _ (sym c.eq.ensures ∙ e)
