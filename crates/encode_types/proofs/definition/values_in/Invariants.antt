use Rattle.std.proofs.Common.{take}
use Rattle.std.specs.List.{AllZip}
use Rattle.encode_types.specs.Maps.{IsWritten}
use Rattle.encode_types.proofs.definition.values_in.Given as goal

abbrev pub invariant-loop-ty : goal.invariant-loop-ty
invariant-loop-ty l = AllZip (IsWritten l.maps) l.all.items (take l.ty-index l.types)
