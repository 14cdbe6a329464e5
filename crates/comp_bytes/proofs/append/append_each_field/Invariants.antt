use Rattle.std.proofs.Common.{take, map}
use Rattle.std.specs.List.{flat_map}
use Rattle.comp_bytes.specs.{Form.Sequence, Spelling.Field, Writing.field_bytes, RawOf.labeled, Appending.Appended}
use Rattle.comp_bytes.proofs.append.append_each_field.Given as goal

abbrev pub invariant-loop-name : goal.invariant-loop-name
invariant-loop-name l = Appended (Sequence Field (take l.name-index (map labeled l.fields))) (flat_map field_bytes (take l.name-index (map labeled l.fields))) l.fn.out.items l.out.items
