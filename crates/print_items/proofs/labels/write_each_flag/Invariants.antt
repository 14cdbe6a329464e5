-- Those so far are printed.
use Rattle.std.proofs.Common.{take}
use Rattle.std.specs.List.{flat_map}
use Rattle.print_items.specs.{Shown.shown_flag, Drives.Drives}
use Rattle.print_grammar.specs.Calls.{label_calls}
use Rattle.print_items.proofs.labels.write_each_flag.Given as goal

abbrev pub invariant-loop-flag : goal.invariant-loop-flag
invariant-loop-flag g l = record { calls : Drives g.O.Output.view g.O.Output.keeps l.fn.driver (flat_map (λ x. label_calls l.emits_docs (shown_flag x)) (take l.flag-index l.flags)) l.driver }
