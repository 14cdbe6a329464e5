use Rattle.std.proofs.Common.{sym, ap, subst, ◌∙◌, ◌+◌, ◌<◌, ℕ, List, length, map}
use Rattle.std.specs.List.{AllByRecursion}
use Rattle.comp_meaning.specs.Rules.{are_labels}
use Rattle.read_follow.specs.declared.facts.Fact.{Fact}
use Rattle.plan_meaning.specs.Shapes.{part_tree, shape_tree}
use Rattle.read_follow.specs.{KeyShapes.shape_of, Facts.Sums, Facts.Tells}
use Rattle.read_follow.proofs.FactLaws.{shape_named, shape_of_form, first_labels}
use Rattle.read_follow.proofs.facts.labelled_fact.Goals as goal

pub returns-then-sort-eq0 : goal.returns-then-sort-eq0
returns-then-sort-eq0 c = λ trees holds shape good. shape_named trees (length c.args.facts.now) (shape_of c.args.key.now) shape c.if-sort-eq0.true

pub returns : goal.returns
returns c = λ trees holds shape good. subst (λ (f : Fact). Tells f (λ place. shape_tree place (trees place) (shape_of c.args.key.now))) (sym c.node_fact.ensures)
    (shape_of_form trees (length c.args.facts.now) c.summary_of-summary.result c.args.has_good_labels (shape_of c.args.key.now) shape c.if-sort-eq0.false
    (good ∙ sym (ap are_labels (first_labels c.args.key.now.labels.items)))
    (λ ranges. subst (λ (parts : List ℕ). Sums c.summary_of-summary.result (λ place. map (part_tree (trees place)) parts)) c.deref.ensures.value
    (c.summary_of-summary.ensures trees holds (subst (AllByRecursion (λ k. k < 14 + length c.args.facts.now)) (sym c.deref.ensures.value) ranges))))
