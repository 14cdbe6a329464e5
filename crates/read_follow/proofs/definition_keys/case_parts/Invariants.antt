use Rattle.std.proofs.Common.{ℕ, ◌+◌, ◌<◌, List, map}
use Rattle.std.specs.List.{AllByRecursion}
use Rattle.wit_model.specs.{Meaning.Signature, Tree.Tree}
use Rattle.comp_bytes.specs.RawOf.{labeled}
use Rattle.comp_meaning.specs.Follow.{case_type}
use Rattle.read_follow.specs.{Rows.case_labels, Rows.case_trees, Rows.RowsSoFar, KeyShapes.label_of, Slots.slots_in, Slots.AreInRange}
use Rattle.plan_meaning.specs.Shapes.{part_tree}
use Rattle.read_follow.proofs.definition_keys.case_parts.Given as goal

abbrev pub invariant-loop-case : goal.invariant-loop-case
invariant-loop-case l = record {
  ranges : (n : ℕ) → AreInRange n l.slots → AllByRecursion (λ k. k < 14 + n) l.parts.items;
  so_far : (T : List Tree) (F : List Signature)
      → RowsSoFar (case_type (slots_in T F l.slots)) case_labels case_trees (map labeled l.cases) l.case-index (map label_of l.labels.items) (map (part_tree T) l.parts.items);
}
