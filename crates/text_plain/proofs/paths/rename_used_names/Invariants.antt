use Rattle.std.proofs.Common.{◌≡◌, map, take}
use Rattle.text_trees.specs.TreesSeen.{used_name_of}
use Rattle.text_plain.specs.Moved.{moved_used}
use Rattle.text_plain.specs.Moves.{on_name, text_from, text_to}
use Rattle.text_plain.proofs.paths.rename_used_names.Given as goal

abbrev pub invariant-loop-used : goal.invariant-loop-used
invariant-loop-used l = map (used_name_of (text_to l.moving)) l.copy.items ≡ map (moved_used (on_name l.moving)) (map (used_name_of (text_from l.moving)) (take l.used-index l.names))
