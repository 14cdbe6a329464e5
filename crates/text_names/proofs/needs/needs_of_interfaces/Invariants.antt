use Rattle.std.proofs.Common.{take}
use Rattle.std.specs.List.{AllZip}
use Rattle.text_names.specs.Paths.{IsNeedsOf}
use Rattle.text_names.proofs.needs.needs_of_interfaces.Given as goal

-- the needs are those of the interfaces so far
abbrev pub invariant-loop-interface : goal.invariant-loop-interface
invariant-loop-interface l = AllZip (IsNeedsOf l.sources) (take l.interface-index l.sources.interfaces.items) l.all.items
