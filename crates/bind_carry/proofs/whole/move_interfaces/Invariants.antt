use Rattle.std.proofs.Common.{◌≡◌, ◌+◌, ℕ, drop, length, slice_get, Some}
use Rattle.std.specs.Vec.Iter.{into_iter_items}
use Rattle.wit_model.specs.declared.model.Interface.{Interface}
use Rattle.bind_carry.specs.{Moved.AreMovedSoFar, Moved.IsInterfaceBelow, Whole.kept, Whole.IsInterfaceCarried}
use Rattle.bind_carry.proofs.whole.move_interfaces.Given as goal

-- those so far whose flags are set are in their places
abbrev pub invariant-loop-interface : goal.invariant-loop-interface
invariant-loop-interface l = record {
  left : l.number + length (into_iter_items l.interface-iterator) ≡ length l.fn.interfaces.items;
  moved : AreMovedSoFar (IsInterfaceCarried l.carried l.types) (kept l.carried.copied_interfaces.items l.fn.interfaces.items)
      (kept (drop l.number l.carried.copied_interfaces.items) (into_iter_items l.interface-iterator)) l.initial.places l.places l.place;
  below : (n : ℕ) (i : Interface) → slice_get (into_iter_items l.interface-iterator) n ≡ Some i → IsInterfaceBelow (length l.carried.packages.items) (length l.types) i;
}
