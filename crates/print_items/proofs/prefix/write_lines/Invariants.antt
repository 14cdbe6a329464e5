-- The lines so far are printed.
use Rattle.std.proofs.Common.{map}
use Rattle.print_output.specs.OutputCall.{OutputCall}
use Rattle.print_items.specs.Drives.{Drives}
use Rattle.print_items.proofs.prefix.write_lines.Given as goal

abbrev pub invariant-loop-line : goal.invariant-loop-line
invariant-loop-line g l = record { calls : Drives g.O.Output.view g.O.Output.keeps l.fn.driver (map (λ line. OutputCall.Doc line.now) l.yielded) l.driver }
