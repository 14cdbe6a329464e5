use Rattle.std.proofs.Common.{drop, length, map}
use Rattle.read_parts.specs.{Exported.raw_exported, Members.AreFollowedTo, Members.AreNumberedTo}
use Rattle.read_parts.proofs.following.follow_each.Given as goal

abbrev pub invariant-loop-exported : goal.invariant-loop-exported
invariant-loop-exported l = AreFollowedTo (length l.fn.table) (map raw_exported l.parts) (map raw_exported (drop l.exported-index l.parts)) l.table l.functions l.places l.members.items
    × AreNumberedTo (map raw_exported l.parts) (map raw_exported (drop l.exported-index l.parts)) l.table l.functions l.places l.members.items
