-- Those so far are printed.
use Rattle.std.proofs.Common.{take}
use Rattle.std.specs.List.{flat_map}
use Rattle.print_items.specs.{Shown.shown_enum_case, Drives.Drives}
use Rattle.print_grammar.specs.Calls.{label_calls}
use Rattle.print_items.proofs.labels.write_each_case.Given as goal

abbrev pub invariant-loop-case : goal.invariant-loop-case
invariant-loop-case g l = record { calls : Drives g.O.Output.view g.O.Output.keeps l.fn.driver (flat_map (λ x. label_calls l.emits_docs (shown_enum_case x)) (take l.case-index l.cases)) l.driver }
