-- What becomes of the types of another `Resolve` by what is carried of it.
use Rattle.std.specs.Prelude.{ℕ, ◌<◌, ◌==◌, Bool, false, ◌||◌, List, [], ◌∷◌, map, Option, Some, None, is_some, length, replicate, slice_get, unwrap_or, if◌then◌else◌}
use Rattle.std.specs.{List.list_any, Option.option_map_or}
use Rattle.wit_model.specs.{Lookup.interface_at, Text.Text, Text.optional_text}
use Rattle.wit_model.specs.declared.model.{InterfaceId.InterfaceId, Resolve.Resolve, TypeDef.TypeDef, TypeId.TypeId, TypeOwner.TypeOwner}
use Rattle.bind_copy.specs.Copies.{number_under}
use Rattle.bind_carry.specs.{Fates.carries, Fates.settled_from, Listed.type_named, Needs.mark_interfaces, Needs.mark_worlds_of, Needs.needed_alone}
use Rattle.bind_carry.specs.declared.{fate.Fate.Fate, plan.Carried.Carried}
use Rattle.wit_model.specs.declared.model.TypeOwner.TheVariants as owner
use Rattle.bind_carry.specs.declared.fate.Fate.TheVariants as fate

abbrev pub flag_under : List Bool → ℕ → Bool
flag_under flags n = unwrap_or (slice_get flags n) false

-- A type stands for the own one, where there is one.
abbrev pub fate_beside : Option TypeId → Fate
fate_beside None = fate.Left
fate_beside (Some id) = fate.Stands id.0

-- So stands a type with a name for the own one of its name in the own interface that has the path of its own.
abbrev pub fate_named : Resolve → List (Option InterfaceId) → ℕ → Option Text → Fate
fate_named own matched n None = fate.Left
fate_named own matched n (Some name) = fate_beside (type_named own matched n name)

-- what becomes of a type of this owner and name
abbrev pub fate_in : Resolve → List (Option InterfaceId) → Carried → TypeOwner → Option Text → Fate
fate_in own matched c (owner.Interface id) name = if flag_under c.copied_interfaces.items id.0 then fate.Copied
    (owner.Interface (record { 0 = number_under c.interfaces.items id.0 })) else fate_named own matched id.0 name
fate_in own matched c (owner.World id) name = if flag_under c.copied_worlds.items id.0 then fate.Copied
    (owner.World (record { 0 = number_under c.worlds.items id.0 })) else fate.Left
fate_in own matched c owner.None name = fate.Left

abbrev pub fate_of : Resolve → List (Option InterfaceId) → Carried → TypeDef → Fate
fate_of own matched c def = fate_in own matched c def.owner (optional_text def.name)

-- whether an interface or a world is copied
abbrev pub adds_any : Carried → Bool
adds_any c = list_any (λ b. b) c.copied_interfaces.items || list_any (λ b. b) c.copied_worlds.items

-- what becomes of the other's types, if all are copied that can be
abbrev pub all_first_fates : Resolve → Resolve → List (Option InterfaceId) → Carried → List Fate
all_first_fates own other matched c = settled_from (adds_any c) [] other.types.items (map (fate_of own matched c) other.types.items)

-- the types that functions name of interfaces and worlds that are copied
abbrev pub first_marks : Resolve → Carried → List Bool
first_marks other c = mark_worlds_of (mark_interfaces (replicate (length other.types.items) false) c.copied_interfaces.items other.interfaces.items)
    c.copied_worlds.items other.worlds.items

-- what becomes of the other's types
abbrev pub first_fates : Resolve → Resolve → List (Option InterfaceId) → Carried → List Fate
first_fates own other matched c = needed_alone (first_marks other c) other.types.items (all_first_fates own other matched c)

-- in what the bound world gains, what was carried stands under its number, and what wasn't is left
abbrev pub beside_first : Fate → ℕ → Fate
beside_first first number = if carries first then fate.Stands number else fate.Left

-- where a type is an interface's, the interface's number is below so many
abbrev pub IsHomeIn : ℕ → TypeOwner → Type 0
IsHomeIn count (owner.Interface id) = id.0 < count
IsHomeIn count (owner.World id) = Unit {0}
IsHomeIn count owner.None = Unit {0}

-- whether an interface with this number has a name
abbrev pub is_named_at : Resolve → ℕ → Bool
is_named_at r n = option_map_or (λ i. is_some i.name) (interface_at r n) false

-- What becomes of a type of this owner in what the bound world gains, own types of the bound world aside. Types of the other's bound world, and
-- of inline interfaces that are gained, are copied. Those of interfaces with a name stay what they were. No item of the bound world names types
-- of other worlds, or of their inline interfaces.
abbrev pub second_in : Resolve → ℕ → ℕ → List Bool → List ℕ → TypeOwner → Fate → Fate
second_in other world other_world copied interfaces (owner.Interface id) before =
    if flag_under copied id.0 then fate.Copied (owner.Interface (record { 0 = number_under interfaces id.0 })) else
    (if is_named_at other id.0 then before else fate.Left)
second_in other world other_world copied interfaces (owner.World id) before =
    if id.0 == other_world then fate.Copied (owner.World (record { 0 = world })) else fate.Left
second_in other world other_world copied interfaces owner.None before = fate.Left

-- the same of all types, by their fates and numbers in the first pass
abbrev pub second_from : Resolve → ℕ → ℕ → List Bool → List ℕ → List TypeDef → List Fate → List ℕ → List Fate
second_from other world other_world copied interfaces [] fs ns = []
second_from other world other_world copied interfaces (t ∷ ts) [] ns = []
second_from other world other_world copied interfaces (t ∷ ts) (f ∷ fs) [] = []
second_from other world other_world copied interfaces (t ∷ ts) (f ∷ fs) (n ∷ ns) =
    second_in other world other_world copied interfaces t.owner (beside_first f n) ∷ second_from other world other_world copied interfaces ts fs ns
