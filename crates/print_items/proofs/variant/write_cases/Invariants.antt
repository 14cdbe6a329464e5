-- Those so far are printed.
use Rattle.std.proofs.Common.{take}
use Rattle.std.specs.List.{flat_map}
use Rattle.print_items.specs.{Shown.shown_case, Drives.Drives}
use Rattle.print_grammar.specs.Calls.{case_calls}
use Rattle.print_items.proofs.variant.write_cases.Given as goal

abbrev pub invariant-loop-case : goal.invariant-loop-case
invariant-loop-case g l = record { calls : Drives g.O.Output.view g.O.Output.keeps l.fn.driver (flat_map (λ x. case_calls l.emits_docs (shown_case l.resolve x)) (take l.case-index l.cases)) l.driver }
