-- The characters so far are printed.
use Rattle.std.proofs.Common.{map}
use Rattle.print_grammar.specs.Calls.{character_call}
use Rattle.print_items.specs.Drives.{Drives}
use Rattle.print_items.proofs.prefix.write_characters.Given as goal

abbrev pub invariant-loop-c : goal.invariant-loop-c
invariant-loop-c g l = record { calls : Drives g.O.Output.view g.O.Output.keeps l.fn.driver (map character_call l.yielded) l.driver }
