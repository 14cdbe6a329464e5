use Rattle.std.proofs.Common.{◌≡◌, map, take}
use Rattle.text_trees.specs.TreesSeen.{type_of}
use Rattle.text_plain.specs.Moved.{moved_type}
use Rattle.text_plain.specs.Moves.{on_name, text_from, text_to}
use Rattle.text_plain.proofs.types.+types.Given as goal

abbrev pub invariant-copy_types-loop-ty : goal.invariant-copy_types-loop-ty
invariant-copy_types-loop-ty l = map (type_of (text_to l.moving)) l.copy.items ≡ map (moved_type (on_name l.moving)) (map (type_of (text_from l.moving)) (take l.ty-index l.types))
