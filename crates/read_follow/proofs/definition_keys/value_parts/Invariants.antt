use Rattle.std.proofs.Common.{ℕ, ◌+◌, ◌<◌, List, [], map}
use Rattle.std.specs.List.{AllByRecursion}
use Rattle.wit_model.specs.{Meaning.Signature, Tree.Tree}
use Rattle.comp_meaning.specs.Follow.{value_type}
use Rattle.read_follow.specs.{Rows.value_labels, Rows.value_trees, Rows.RowsSoFar, Slots.slots_in, Slots.AreInRange}
use Rattle.plan_meaning.specs.Shapes.{part_tree}
use Rattle.read_follow.proofs.definition_keys.value_parts.Given as goal

abbrev pub invariant-loop-v : goal.invariant-loop-v
invariant-loop-v l = record {
  ranges : (n : ℕ) → AreInRange n l.slots → AllByRecursion (λ k. k < 14 + n) l.parts.items;
  so_far : (T : List Tree) (F : List Signature) → RowsSoFar (value_type (slots_in T F l.slots)) value_labels value_trees l.values l.v-index [] (map (part_tree T) l.parts.items);
}
