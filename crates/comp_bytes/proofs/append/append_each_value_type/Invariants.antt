use Rattle.std.proofs.Common.{take}
use Rattle.std.specs.List.{flat_map}
use Rattle.comp_bytes.specs.{Form.Sequence, Spelling.ValueType, Writing.value_bytes, Appending.Appended}
use Rattle.comp_bytes.proofs.append.append_each_value_type.Given as goal

abbrev pub invariant-loop-ty : goal.invariant-loop-ty
invariant-loop-ty l = Appended (Sequence ValueType (take l.ty-index (l.types))) (flat_map value_bytes (take l.ty-index (l.types))) l.fn.out.items l.out.items
