-- The packages before those that are left are printed.
use Rattle.std.proofs.Common.{drop}
use Rattle.print_uses.specs.Printable.{next_package_calls}
use Rattle.print_items.proofs.Moves.{Underway}
use Rattle.print_packages.proofs.file.print_more_packages.Given as goal

abbrev pub invariant-loop-id : goal.invariant-loop-id
invariant-loop-id g l = Underway g.O.Output.keeps (next_package_calls l.emits_docs l.resolve) l.ids (drop l.id-index l.ids) (g.O.Output.view l.fn.output) (g.O.Output.view l.output)
