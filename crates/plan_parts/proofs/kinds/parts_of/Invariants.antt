use Rattle.std.proofs.Common.{map, take}
use Rattle.std.specs.List.{AllZip}
use Rattle.plan_meaning.specs.{Built.part_of, Renumbering.IsPart}
use Rattle.plan_parts.proofs.kinds.parts_of.Given as goal

-- so many parts
abbrev pub invariant-loop-part : goal.invariant-loop-part
invariant-loop-part l = AllZip (IsPart l.kept) (take l.part-index l.parts) (map part_of l.types.items)
