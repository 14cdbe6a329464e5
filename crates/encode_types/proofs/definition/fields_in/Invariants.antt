use Rattle.std.proofs.Common.{take}
use Rattle.std.specs.List.{AllZip}
use Rattle.encode_types.specs.Definition.{IsWrittenField}
use Rattle.encode_types.proofs.definition.fields_in.Given as goal

abbrev pub invariant-loop-field : goal.invariant-loop-field
invariant-loop-field l = AllZip (IsWrittenField l.maps) l.all.items (take l.field-index l.fields)
