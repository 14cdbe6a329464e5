-- What the slots of what has been followed stand for.
use Rattle.std.specs.Prelude.{◌≡◌, Bool, true, not, List, Option, Some, None, slice_get}
use Rattle.wit_model.specs.Tree.{named}
use Rattle.comp_meaning.specs.Follow.{Slot}
use Rattle.encode_types.specs.{Slots.Pairs, Slots.Standing, Slots.tree, Slots.function, Resources.Names, Resources.is_resource_tree}

-- what a slot that has been followed stands for
abbrev pub standing_at : Option Slot → Option Standing
standing_at (Some (Slot.value t)) = Some (tree t)
standing_at (Some (Slot.resource place name)) = Some (tree (named place name))
standing_at (Some (Slot.function s)) = Some (function s)
standing_at (Some (Slot.instance ds n)) = None
standing_at None = None

-- what each of these slots stands for
abbrev pub SlotsStand : List Slot → Pairs
SlotsStand slots i m = standing_at (slice_get slots i) ≡ Some m

-- whether a slot is one of a resource exactly where its name stands for one
abbrev pub is_slot_of : Names → Slot → Bool
is_slot_of resources (Slot.value t) = not (is_resource_tree resources t)
is_slot_of resources (Slot.resource place name) = resources place name
is_slot_of resources (Slot.function s) = true
is_slot_of resources (Slot.instance ds n) = true
