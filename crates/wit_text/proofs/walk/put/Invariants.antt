use Rattle.std.proofs.Common.{reverse}
use Rattle.wit_text.specs.{Puts.links, Weights.path_steps}
use Rattle.wit_text.proofs.Walking.{IsUnderway}
use Rattle.wit_text.proofs.walk.put.Given as goal

abbrev pub invariant-loop-interface : goal.invariant-loop-interface
invariant-loop-interface l = IsUnderway l.walk l.first l.initial.entries.entries l.entries.entries (reverse l.path.items)

abbrev pub decreases-loop-interface : goal.decreases-loop-interface
decreases-loop-interface l = path_steps (links l.walk) l.path.items
