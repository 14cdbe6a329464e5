use Rattle.std.proofs.Common.{◌≡◌, ◌++◌, map, take}
use Rattle.wit_compat.proofs.functions.push_parameters.Given as goal

-- the types so far
abbrev pub invariant-loop-param : goal.invariant-loop-param
invariant-loop-param l = l.types.items ≡ l.fn.types.items ++ map (λ p. p.ty) (take l.param-index l.params)
