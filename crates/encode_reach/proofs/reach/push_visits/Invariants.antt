use Rattle.std.proofs.Common.{◌≡◌, ◌++◌}
use Rattle.encode_reach.specs.Walk.{visits}
use Rattle.encode_reach.proofs.reach.push_visits.Given as goal

abbrev pub invariant-loop-interface : goal.invariant-loop-interface
invariant-loop-interface l = l.steps.items ++ visits l.interface-iterator.iter.rest.now ≡ l.initial.steps.items ++ visits l.interfaces
