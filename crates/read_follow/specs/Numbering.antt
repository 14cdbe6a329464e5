-- The types that declarations declare one after the other, and how they are numbered (Component Model Binary.md, "Index Spaces").
use Rattle.std.specs.Prelude.{◌≡◌, ◌⊎◌, ◌<◌, ◌+◌, ℕ, suc, List, [], ◌∷◌, ◌++◌, drop, length, map, take, Option, Some, None, slice_get}
use Rattle.std.specs.{List.flat_map, Option.option_map_or}
use Rattle.wit_model.specs.Tree.{Place, Tree}
use Rattle.comp_bytes.specs.Levels.{Entry}
use Rattle.comp_meaning.specs.ByLevels.{entry_step}
use Rattle.comp_meaning.specs.Follow.{Instance as MeantInstance, InstanceScope as MeantInstanceScope, Scope as MeantScope, Slot as Meant, value, resource, function, instance, instance_steps, new_instance, instance_place}
use Rattle.read_follow.specs.declared.slots.Slot.{Slot}
use Rattle.plan_meaning.specs.Shapes.{part_tree}
use Rattle.read_follow.specs.declared.slots.Slot.TheVariants as slots

-- ---- what is declared

-- the type of a value, or the resource, that a type index stands for
abbrev pub slot_trees : Meant → List Tree
slot_trees (value t) = t ∷ []
slot_trees (resource place name) = Tree.named place name ∷ []
slot_trees (function f) = []
slot_trees (instance ds n) = []

-- those of the type indexes of an instance type, in their order
abbrev pub held_trees : Option MeantInstanceScope → List Tree
held_trees None = []
held_trees (Some s) = flat_map slot_trees s.slots

-- the types that an instance type declares of an interface whose names stand in this place, in their order
abbrev pub instance_trees : List Meant → Place → Option Meant → List Tree
instance_trees around place (Some (instance ds n)) = held_trees (instance_steps place (take n around) new_instance ds)
instance_trees around place _ = []

-- each of these in this scope
abbrev pub all_in : {S A : Type 0} → S → List A → List (S × A)
all_in scope xs = map (λ x. (scope, x)) xs

-- The types that instances declare, from the instance of this number on, which use the instance types of these indexes. Each has its scope, the number of the
-- instance.
abbrev pub used_trees : List Meant → ℕ → List MeantInstance → List ℕ → List (Option ℕ × Tree)
used_trees around j [] ns = []
used_trees around j (i ∷ is) [] = []
used_trees around j (i ∷ is) (n ∷ ns) =
    all_in (Some j) (instance_trees around (instance_place i.interface) (slice_get around n)) ++ used_trees around (suc j) is ns

-- The types that a component type has declared in the second of these scopes and hadn't in the first, and those that its new instances declare. Each has its
-- scope: none of the instances, or the number of the instance.
abbrev pub trees_since : MeantScope → MeantScope → List (Option ℕ × Tree)
trees_since old new =
    all_in None (flat_map slot_trees (drop (length old.slots) new.slots))
    ++ used_trees new.slots (length old.instances) (drop (length old.instances) new.instances) (drop (length old.used) new.used)

-- The types that entries declare one after the other, in the order in which they are declared, each with its scope. An instance type is followed where it is
-- used.
abbrev pub trees_along : MeantScope → List Entry → List (Option ℕ × Tree)
trees_along scope [] = []
trees_along scope (e ∷ es) = option_map_or (λ next. trees_since scope next ++ trees_along next es) (entry_step scope e) []

-- ---- how it is numbered

-- A part in a table of so many types: it is there already, or it is the next one. Then there are so many.
abbrev pub IsNext : ℕ → ℕ → ℕ → Type 0
IsNext part n m = ((part < 14 + n) × (m ≡ n)) ⊎ ((part ≡ 14 + n) × (m ≡ n + 1))

-- Parts one after the other, in a table of so many types, and how many there are at last: each is there already, or it is the next one.
abbrev pub CountUp : ℕ → List ℕ → ℕ → Type 0
CountUp from [] to = from ≡ to
CountUp from (part ∷ parts) to = (mid : ℕ) × IsNext part from mid × CountUp mid parts to

-- parts without their scopes
abbrev pub bare_parts : {S : Type 0} → List (S × ℕ) → List ℕ
bare_parts ps = map (λ p. p.1) ps

-- the trees of parts, each with its scope
abbrev pub scoped_trees : {S : Type 0} → List Tree → List (S × ℕ) → List (S × Tree)
scoped_trees trees ps = map (λ p. (p.0, part_tree trees p.1)) ps

-- the part of a slot that stands for a type of a value or a resource
abbrev pub slot_parts : Slot → List ℕ
slot_parts (slots.Value part) = part ∷ []
slot_parts (slots.Resource part) = part ∷ []
slot_parts (slots.Function n) = []
slot_parts (slots.Instance b n) = []

-- those of these slots
abbrev pub parts_in : List Slot → List ℕ
parts_in ss = flat_map slot_parts ss
