use Rattle.std.proofs.Common.{take, map}
use Rattle.std.specs.List.{flat_map}
use Rattle.comp_bytes.specs.{Form.Sequence, Spelling.Case, Writing.case_bytes, RawOf.labeled, Appending.Appended}
use Rattle.comp_bytes.proofs.append.append_each_case.Given as goal

abbrev pub invariant-loop-name : goal.invariant-loop-name
invariant-loop-name l = Appended (Sequence Case (take l.name-index (map labeled l.cases))) (flat_map case_bytes (take l.name-index (map labeled l.cases))) l.fn.out.items l.out.items
