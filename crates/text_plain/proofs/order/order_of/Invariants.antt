use Rattle.std.proofs.Common.{◌≡◌, ◌<◌, ℕ, []}
use Rattle.text_plain.specs.Orders.{links_of}
use Rattle.text_plain.specs.Walks.{IsWalk, IsMet}
use Rattle.text_plain.proofs.order.order_of.Given as goal

-- all numbers so far are met, and the walk is at its end
abbrev pub invariant-loop-first : goal.invariant-loop-first
invariant-loop-first l = IsWalk (links_of l.needs) l.walk.states.items [] l.walk.done.items × (l.walk.path.items ≡ []) × ((n : ℕ) → n < l.first → IsMet l.walk.states.items n)
