use Rattle.std.proofs.Common.{take, map}
use Rattle.std.specs.List.{flat_map}
use Rattle.comp_bytes.specs.{Form.Sequence, Form.Name, Writing.name_bytes, RawOf.text_of, Appending.Appended}
use Rattle.comp_bytes.proofs.append.append_each_name.Given as goal

abbrev pub invariant-loop-name : goal.invariant-loop-name
invariant-loop-name l = Appended (Sequence Name (take l.name-index (map text_of l.names))) (flat_map name_bytes (take l.name-index (map text_of l.names))) l.fn.out.items l.out.items
