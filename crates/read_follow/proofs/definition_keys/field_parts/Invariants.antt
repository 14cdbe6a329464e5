use Rattle.std.proofs.Common.{ℕ, ◌+◌, ◌<◌, List, map}
use Rattle.std.specs.List.{AllByRecursion}
use Rattle.wit_model.specs.{Meaning.Signature, Tree.Tree}
use Rattle.comp_bytes.specs.RawOf.{labeled}
use Rattle.comp_meaning.specs.Follow.{field_type}
use Rattle.read_follow.specs.{Rows.field_labels, Rows.field_trees, Rows.RowsSoFar, KeyShapes.label_of, Slots.slots_in, Slots.AreInRange}
use Rattle.plan_meaning.specs.Shapes.{part_tree}
use Rattle.read_follow.proofs.definition_keys.field_parts.Given as goal

abbrev pub invariant-loop-field : goal.invariant-loop-field
invariant-loop-field l = record {
  ranges : (n : ℕ) → AreInRange n l.slots → AllByRecursion (λ k. k < 14 + n) l.parts.items;
  so_far : (T : List Tree) (F : List Signature)
      → RowsSoFar (field_type (slots_in T F l.slots)) field_labels field_trees (map labeled l.fields) l.field-index (map label_of l.labels.items) (map (part_tree T) l.parts.items);
}
