use Rattle.std.proofs.Common.{[]}
use Rattle.encode_types.specs.Plan.{IsPlanned}
use Rattle.encode_types.proofs.plan.order_of.Given as goal

abbrev pub invariant-loop-ty : goal.invariant-loop-ty
invariant-loop-ty l = IsPlanned l.resolve l.own l.maps [] l.types l.ty-index l.order
