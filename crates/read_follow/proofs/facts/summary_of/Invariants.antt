use Rattle.std.proofs.Common.{ℕ, ◌+◌, ◌<◌, List, length, map, take}
use Rattle.std.specs.List.{AllByRecursion}
use Rattle.wit_model.specs.Tree.{Place, Tree}
use Rattle.plan_meaning.specs.Shapes.{part_tree}
use Rattle.read_follow.specs.Facts.{FactsHold, Sums}
use Rattle.read_follow.proofs.facts.summary_of.Given as goal

abbrev pub invariant-loop-part : goal.invariant-loop-part
invariant-loop-part l = (trees : (ℕ → Place) → List Tree) → FactsHold l.facts trees → AllByRecursion (λ k. k < 14 + length l.facts) l.parts
    → Sums l.summary (λ place. map (part_tree (trees place)) (take l.part-index l.parts))
