use Rattle.std.proofs.Common.{◌≡◌, []}
use Rattle.encode_reach.specs.Walk.{listed_at_end, steps_left}
use Rattle.encode_reach.proofs.reach.walk.Given as goal

abbrev pub invariant-loop-step : goal.invariant-loop-step
invariant-loop-step l = listed_at_end l.resolve l.steps.items l.listed.keys ≡ listed_at_end l.resolve l.initial.steps.items []

abbrev pub decreases-loop-step : goal.decreases-loop-step
decreases-loop-step l = steps_left l.resolve l.steps.items l.listed.keys
