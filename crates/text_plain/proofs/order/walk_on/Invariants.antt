use Rattle.text_plain.specs.Orders.{links_of}
use Rattle.text_plain.specs.Walks.{IsWalk, KeepsMet, steps_left}
use Rattle.text_plain.proofs.order.walk_on.Given as goal

-- the walk is one, and what was met stays so
abbrev pub invariant-loop-number : goal.invariant-loop-number
invariant-loop-number l = IsWalk (links_of l.needs) l.walk.states.items l.walk.path.items l.walk.done.items × KeepsMet l.initial.walk.states.items l.walk.states.items

abbrev pub decreases-loop-number : goal.decreases-loop-number
decreases-loop-number l = steps_left (links_of l.needs) l.walk.states.items l.walk.path.items
