use Rattle.std.proofs.Common.{◌≡◌, map, take}
use Rattle.text_trees.specs.TreesSeen.{world_member_of}
use Rattle.text_plain.specs.Moved.{moved_world_member}
use Rattle.text_plain.specs.Moves.{on_name, on_path, text_from, text_to}
use Rattle.text_plain.proofs.members.copy_world_members.Given as goal

abbrev pub invariant-loop-member : goal.invariant-loop-member
invariant-loop-member l = map (world_member_of (text_to l.moving)) l.copy.items
    ≡ map (moved_world_member (on_name l.moving) (on_path l.moving)) (map (world_member_of (text_from l.moving)) (take l.member-index l.members))
