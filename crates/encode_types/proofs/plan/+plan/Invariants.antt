use Rattle.encode_types.specs.Plan.{rank, IsPlanned}
use Rattle.encode_types.proofs.plan.+plan.Given as goal

abbrev pub decreases-plan : goal.decreases-plan
decreases-plan l = rank l.ty.now

abbrev pub invariant-loop-part : goal.invariant-loop-part
invariant-loop-part l = IsPlanned l.resolve l.own l.maps l.fn.order.numbers.items l.part-items l.part-index l.order
