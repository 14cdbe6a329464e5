use Rattle.std.proofs.Common.{◌≡◌, ◌+◌, ℕ, true, drop, length, slice_get, Some}
use Rattle.std.specs.Vec.Iter.{into_iter_items}
use Rattle.wit_model.specs.declared.model.TypeDef.{TypeDef}
use Rattle.bind_copy.specs.Copies.{all_below}
use Rattle.bind_union.specs.Views.{kind_view, view_numbers}
use Rattle.bind_carry.specs.{Fates.copied_types, Fates.IsCopiedType, Moved.AreMovedSoFar}
use Rattle.bind_carry.proofs.moved.move_types.Given as goal

-- those so far that are copied by their fates are in their places
abbrev pub invariant-loop-def : goal.invariant-loop-def
invariant-loop-def l = record {
  left : l.number + length (into_iter_items l.def-iterator) ≡ length l.fn.defs.items;
  moved : AreMovedSoFar (IsCopiedType l.types) (copied_types l.fn.defs.items l.fates) (copied_types (into_iter_items l.def-iterator) (drop l.number l.fates)) l.initial.places l.places l.place;
  below : (n : ℕ) (d : TypeDef) → slice_get (into_iter_items l.def-iterator) n ≡ Some d → all_below (length l.types) (view_numbers (kind_view d.kind)) ≡ true;
}
