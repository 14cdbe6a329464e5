use Rattle.std.proofs.Common.{◌≡◌, map, take}
use Rattle.text_trees.specs.TreesSeen.{resource_member_of}
use Rattle.text_plain.specs.Moved.{moved_resource_member}
use Rattle.text_plain.specs.Moves.{on_name, text_from, text_to}
use Rattle.text_plain.proofs.declared.copy_resource_members.Given as goal

abbrev pub invariant-loop-member : goal.invariant-loop-member
invariant-loop-member l = map (resource_member_of (text_to l.moving)) l.copy.items
    ≡ map (moved_resource_member (on_name l.moving)) (map (resource_member_of (text_from l.moving)) (take l.member-index l.members))
