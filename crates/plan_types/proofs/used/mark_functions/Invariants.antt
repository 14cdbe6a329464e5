use Rattle.std.proofs.Common.{take}
use Rattle.std.specs.List.{flat_map}
use Rattle.read_rules.specs.Tables.{numbered_tables}
use Rattle.plan_types.specs.Used.{function_parts, Marks}
use Rattle.plan_types.proofs.used.mark_functions.Given as goal

-- the marks of so many
abbrev pub invariant-loop-number : goal.invariant-loop-number
invariant-loop-number l = Marks (flat_map (function_parts (numbered_tables l.tables)) (take l.number-index l.numbers)) l.initial.marks l.marks
