use Rattle.std.proofs.Common.{◌≡◌, map, take}
use Rattle.encode_types.proofs.shape.param_types.Given as goal

abbrev pub invariant-loop-param : goal.invariant-loop-param
invariant-loop-param l = l.types.items ≡ map (λ p. p.ty) (take l.param-index l.params)
