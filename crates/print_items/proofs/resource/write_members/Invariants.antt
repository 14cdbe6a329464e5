-- Those so far are printed.
use Rattle.std.proofs.Common.{take}
use Rattle.std.specs.List.{flat_map}
use Rattle.print_items.specs.{Shown.shown_resource_member, Drives.Drives}
use Rattle.print_grammar.specs.Calls.{resource_member_calls}
use Rattle.print_items.proofs.resource.write_members.Given as goal

abbrev pub invariant-loop-function : goal.invariant-loop-function
invariant-loop-function g l = record {
  calls : Drives g.O.Output.view g.O.Output.keeps l.fn.driver (flat_map (λ f. resource_member_calls l.emits_docs (shown_resource_member l.resolve f.now)) (take l.function-index l.functions)) l.driver;
}
