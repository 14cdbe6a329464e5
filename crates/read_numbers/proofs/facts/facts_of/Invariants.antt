use Rattle.std.proofs.Common.{◌≡◌, length, map}
use Rattle.read_follow.specs.Facts.{FactsHold}
use Rattle.plan_meaning.specs.Shapes.{shape_trees}
use Rattle.read_numbers.specs.Facts.{followed_fact}
use Rattle.read_numbers.proofs.facts.facts_of.Given as goal

abbrev pub invariant-loop-number : goal.invariant-loop-number
invariant-loop-number l = record { many : length l.facts.items ≡ l.number; tell : FactsHold (map followed_fact l.facts.items) (λ place. shape_trees place l.table) }
