use Rattle.std.proofs.Common.{◌≡◌, map, take}
use Rattle.text_trees.specs.TreesSeen.{field_of}
use Rattle.text_plain.specs.Moved.{moved_field}
use Rattle.text_plain.specs.Moves.{on_name, text_from, text_to}
use Rattle.text_plain.proofs.declared.copy_fields.Given as goal

abbrev pub invariant-loop-field : goal.invariant-loop-field
invariant-loop-field l = map (field_of (text_to l.moving)) l.copy.items
    ≡ map (moved_field (on_name l.moving)) (map (field_of (text_from l.moving)) (take l.field-index l.fields))
