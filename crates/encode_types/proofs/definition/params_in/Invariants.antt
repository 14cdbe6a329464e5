use Rattle.std.proofs.Common.{take}
use Rattle.std.specs.List.{AllZip}
use Rattle.encode_types.specs.Definition.{IsWrittenParam}
use Rattle.encode_types.proofs.definition.params_in.Given as goal

abbrev pub invariant-loop-param : goal.invariant-loop-param
invariant-loop-param l = AllZip (IsWrittenParam l.maps) l.all.items (take l.param-index l.params)
