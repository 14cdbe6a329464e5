use Rattle.std.proofs.Common.{◌∙◌, ap, sym, subst, ℕ, List, length, map}
use Rattle.read_follow.specs.declared.facts.Fact.{Fact}
use Rattle.read_follow.specs.{Facts.FactsHold, KeyShapes.shape_of}
use Rattle.plan_meaning.specs.Shapes.{Shape, shape_trees, IsShape}
use Rattle.read_follow.proofs.table.Table.number_of.Goals as goal

pub put-requires-clause-shape : goal.put-requires-clause-shape
put-requires-clause-shape c = subst (λ (ss : List Shape). IsShape (length ss) (shape_of c.args.key)) (sym c.self.view_is) c.requires

pub put-requires-clause-tells : goal.put-requires-clause-tells
put-requires-clause-tells c = c.in_ok-fact.ensures (λ place. shape_trees place (map shape_of c.self.inside.keys.keys))
    (subst (λ (fs : List Fact). FactsHold fs (λ place. shape_trees place (map shape_of c.self.inside.keys.keys))) (sym c.deref.ensures.value) c.self.invariant.hold)
    (subst (λ (n : ℕ). IsShape n (shape_of c.args.key)) (sym (ap (λ (fs : List Fact). length fs) c.deref.ensures.value
    ∙ (c.self.invariant.many ∙ ap (λ (ss : List Shape). length ss) c.self.view_is))) c.requires)
