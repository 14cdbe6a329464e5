use Rattle.std.proofs.Common.{◌≡◌, false, map, take}
use Rattle.comp_bytes.specs.RawOf.{text_of}
use Rattle.plan_meaning.specs.Shapes.{marked}
use Rattle.read_follow.specs.KeyShapes.{label_of}
use Rattle.read_follow.proofs.definition_keys.labels_key.Given as goal

abbrev pub invariant-loop-name : goal.invariant-loop-name
invariant-loop-name l = map label_of l.labels.items ≡ marked false (map text_of (take l.name-index l.names))
