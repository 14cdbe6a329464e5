-- In which order the types that a type needs are defined.
use Rattle.std.specs.Prelude.{ℕ, ◌≡◌, ◌<◌, ◌+◌, ◌⊎◌, Bool, true, false, Decides, cond, nat_eq, nat_lt, List, take, drop, length, slice_index, Option, Some, None}
use Rattle.std.specs.{List.Contains, List.IsDistinct, List.list_all, BTreeSet.contains, Ordering.nat_cmp}
use Rattle.wit_model.specs.{Lookup.type_at, Parts.kind_numbers}
use Rattle.wit_model.specs.declared.model.{Resolve.Resolve, TypeDef.TypeDef, «Type».«Type» as ValueType, InterfaceId.InterfaceId, TypeOwner.TypeOwner}
use Rattle.wit_model.specs.declared.model.TypeId.{TypeId}
use Rattle.encode_types.{specs.declared.maps.TypeEncodingMaps.TypeEncodingMaps, specs.declared.plan.Order.Order, specs.Kinds.parts_of, specs.Maps.IsKnown}
use Rattle.wit_model.specs.declared.model.«Type».TheVariants as ty
use Rattle.wit_model.specs.declared.model.TypeOwner.TheVariants as owner

-- whether the interface of a scope, if it has one, is this one
abbrev pub is_interface : Option InterfaceId → InterfaceId → Bool
is_interface None i = false
is_interface (Some j) i = nat_eq j.0 i.0

-- the interface of a type, where it is another one
abbrev pub foreign_owner : Option InterfaceId → TypeOwner → Option InterfaceId
foreign_owner own (owner.Interface i) = cond (is_interface own i) None (Some i)
foreign_owner own (owner.World w) = None
foreign_owner own owner.None = None

-- n is met on the way down from a type, where types of other interfaces aren't opened
pub data Reaches (r : Resolve) (own : Option InterfaceId) : ValueType → ℕ → Type 0 where
  itself : (id : TypeId) → Reaches r own (ty.Id id) id.0
  through : (id : TypeId) (def : TypeDef) (t : ValueType) (n : ℕ) → type_at r id.0 ≡ Some def → foreign_owner own def.owner ≡ None
      → Contains (parts_of def.kind) t → Reaches r own t n → Reaches r own (ty.Id id) n

-- n is met on the way down from a type, by way of numbers that the maps lack, which lack n too
pub data Meets (r : Resolve) (own : Option InterfaceId) (m : TypeEncodingMaps) : ValueType → ℕ → Type 0 where
  at_once : (id : TypeId) → (IsKnown m id.0 → ⊥) → Meets r own m (ty.Id id) id.0
  further : (id : TypeId) (def : TypeDef) (t : ValueType) (n : ℕ) → (IsKnown m id.0 → ⊥) → type_at r id.0 ≡ Some def → foreign_owner own def.owner ≡ None
      → Contains (parts_of def.kind) t → Meets r own m t n → Meets r own m (ty.Id id) n

-- n is so met from one of these types
abbrev pub MetFrom : Resolve → Option InterfaceId → TypeEncodingMaps → List ValueType → ℕ → Type 0
MetFrom r own m ts n = (t : ValueType) × Contains ts t × Meets r own m t n

-- each type refers to smaller numbers alone
pub record IsLayered (r : Resolve) : Type 0 where
  pub smaller : (n : ℕ) (def : TypeDef) → type_at r n ≡ Some def → list_all (λ m. nat_lt m n) (kind_numbers def.kind) ≡ true

-- a type is a primitive, or its number is in range
abbrev pub InRange : Resolve → ValueType → Type 0
InRange r t = (id : TypeId) → t ≡ ty.Id id → id.0 < length r.types.items

-- each of these types is a primitive, or its number is in range
abbrev pub AllInRange : Resolve → List ValueType → Type 0
AllInRange r ts = (t : ValueType) → Contains ts t → InRange r t

-- the parts of number n are known, or stand in the list
abbrev pub PartsStand : Resolve → Option InterfaceId → TypeEncodingMaps → List ℕ → ℕ → Type 0
PartsStand r own m before n = (def : TypeDef) (id : TypeId) → type_at r n ≡ Some def → foreign_owner own def.owner ≡ None
    → Contains (parts_of def.kind) (ty.Id id) → IsKnown m id.0 ⊎ Contains before id.0

-- the parts of each number of the list stand before it
abbrev pub IsOrdered : Resolve → Option InterfaceId → TypeEncodingMaps → List ℕ → Type 0
IsOrdered r own m order = (k : ℕ) → k < length order → PartsStand r own m (take k order) (slice_index order k)

-- the numbers that are met are those of the list behind the first eight
abbrev pub AreMet : Order → Type 0
AreMet order = (n : ℕ) → Decides (contains nat_cmp order.met n) (Contains (drop 8 order.numbers.items) n)

-- a type is known, or stands in the list
abbrev pub Stands : TypeEncodingMaps → List ℕ → ValueType → Type 0
Stands m order t = (id : TypeId) → t ≡ ty.Id id → IsKnown m id.0 ⊎ Contains order id.0

-- what the first i types need has been added to an order, in which no number stands twice
pub record IsPlanned (r : Resolve) (own : Option InterfaceId) (m : TypeEncodingMaps) (before : List ℕ) (ts : List ValueType) (i : ℕ)
    (after : Order) : Type 0 where
  pub kept : (n : ℕ) → Contains before n → Contains after.numbers.items n
  pub added : (n : ℕ) → Contains after.numbers.items n → Contains before n ⊎ MetFrom r own m (take i ts) n
  pub ordered : IsOrdered r own m after.numbers.items
  pub met : AreMet after
  pub once : IsDistinct nat_eq after.numbers.items
  pub stands : (t : ValueType) → Contains (take i ts) t → Stands m after.numbers.items t

-- the measure of a type: nothing is below a primitive
abbrev pub rank : ValueType → ℕ
rank (ty.Id id) = id.0 + 1
rank _ = 0

-- the numbers that some types need, in order, none twice
pub record IsOrderOf (r : Resolve) (own : Option InterfaceId) (m : TypeEncodingMaps) (ts : List ValueType) (order : List ℕ) : Type 0 where
  pub added : (n : ℕ) → Contains order n → MetFrom r own m ts n
  pub ordered : IsOrdered r own m order
  pub stands : (t : ValueType) → Contains ts t → Stands m order t
  pub once : IsDistinct nat_eq order
