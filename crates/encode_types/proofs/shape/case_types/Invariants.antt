use Rattle.std.proofs.Common.{◌≡◌, filter_map, take}
use Rattle.encode_types.proofs.shape.case_types.Given as goal

abbrev pub invariant-loop-case : goal.invariant-loop-case
invariant-loop-case l = l.types.items ≡ filter_map (λ c. c.ty) (take l.case-index l.cases)
