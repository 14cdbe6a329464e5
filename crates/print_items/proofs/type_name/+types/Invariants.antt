-- What is printed, and the types that are left, are the whole.
use Rattle.std.proofs.Common.{◌++◌, ◌+◌, ◌*◌, drop}
use Rattle.wit_model.specs.Parts.{member_types}
use Rattle.print_items.specs.{Shown.type_trees, TypeParts.kind_start, TypeParts.types_from}
use Rattle.print_items.proofs.{Driven.Driving, TypeParts.rank}
use Rattle.print_items.proofs.type_name.+types.Given as goal

abbrev pub decreases-write_type_name : goal.decreases-write_type_name
decreases-write_type_name g l = 2 * rank l.ty.now

abbrev pub decreases-write_unnamed : goal.decreases-write_unnamed
decreases-write_unnamed g l = 2 * l.id.0 + 1

abbrev pub invariant-write_unnamed-loop-number : goal.invariant-write_unnamed-loop-number
invariant-write_unnamed-loop-number g l = Driving g.O.Output.view g.O.Output.keeps (types_from (type_trees l.resolve) l.number (drop l.number (member_types l.def.kind)))
    (kind_start l.resolve l.def.kind ++ types_from (type_trees l.resolve) 0 (member_types l.def.kind)) l.fn.driver l.driver
