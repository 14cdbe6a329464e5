use Rattle.std.proofs.Common.{◌≡◌, take}
use Rattle.encode_types.proofs.shape.tuple_types.Given as goal

abbrev pub invariant-loop-ty : goal.invariant-loop-ty
invariant-loop-ty l = l.types.items ≡ take l.ty-index l.tuple
