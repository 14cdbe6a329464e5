use Rattle.std.proofs.Common.{◌≡◌, map, take}
use Rattle.text_trees.specs.TreesSeen.{label_of}
use Rattle.text_plain.specs.Moves.{text_from, text_to}
use Rattle.text_plain.proofs.declared.copy_labels.Given as goal

abbrev pub invariant-loop-label : goal.invariant-loop-label
invariant-loop-label l = map (label_of (text_to l.moving)) l.copy.items
    ≡ map (label_of (text_from l.moving)) (take l.label-index l.labels)
