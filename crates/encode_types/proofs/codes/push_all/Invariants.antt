use Rattle.std.proofs.Common.{◌≡◌, ◌++◌, map, take}
use Rattle.encode_types.specs.Codes.{type_code}
use Rattle.encode_types.proofs.codes.push_all.Given as goal

abbrev pub invariant-loop-ty : goal.invariant-loop-ty
invariant-loop-ty l = l.list.items ≡ l.initial.list.items ++ map type_code (take l.ty-index l.types)
