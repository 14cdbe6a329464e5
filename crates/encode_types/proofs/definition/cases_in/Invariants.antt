use Rattle.std.proofs.Common.{take}
use Rattle.std.specs.List.{AllZip}
use Rattle.encode_types.specs.Definition.{IsWrittenCase}
use Rattle.encode_types.proofs.definition.cases_in.Given as goal

abbrev pub invariant-loop-case : goal.invariant-loop-case
invariant-loop-case l = AllZip (IsWrittenCase l.maps) l.all.items (take l.case-index l.cases)
