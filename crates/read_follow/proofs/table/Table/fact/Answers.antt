use Rattle.std.proofs.Common.{◌≡◌, ◌<◌, ◌+◌, ap, sym, subst, ◌∙◌, arith, List, length, map}
use Rattle.read_follow.specs.declared.facts.Fact.{Fact}
use Rattle.read_follow.specs.{Facts.fact_at, Facts.Tells, KeyShapes.shape_of}
use Rattle.plan_meaning.specs.Shapes.{Shape, part_tree, shape_trees}
use Rattle.read_follow.proofs.FactLaws.{tells_part}
use Rattle.read_follow.proofs.table.Table.fact.Goals as goal

pub returns : goal.returns
returns c =
    let long : length (map shape_of c.self.inside.keys.keys) ≡ length c.args.self.now = ap length c.self.view_is in
    let inside : c.args.part < 14 + length c.self.inside.facts.items = omega (arith, c.requires, c.self.invariant.many, long) in
    subst (λ (ss : List Shape). Tells c.fact_at.result (λ place. part_tree (shape_trees place ss) c.args.part)) c.self.view_is
    (subst (λ (f : Fact). Tells f (λ place. part_tree (shape_trees place (map shape_of c.self.inside.keys.keys)) c.args.part))
    (sym (c.fact_at.ensures ∙ ap (λ fs. fact_at fs c.args.part) c.deref.ensures.value))
    (tells_part c.self.inside.facts.items (λ place. shape_trees place (map shape_of c.self.inside.keys.keys)) c.self.invariant.hold c.args.part inside))
