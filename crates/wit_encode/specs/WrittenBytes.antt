-- How many bytes have been declared: no more than what was asked for takes, and each type number that has been learnt on the way
-- (Component Model Binary.md, "Type Definitions").
use Rattle.std.specs.Prelude.{ℕ, ◌≡◌, ◌≤◌, ◌+◌, Bool, false, nat_eq, List, map, sum_by, Some, None}
use Rattle.std.specs.List.{AllPairs, Contains}
use Rattle.wit_model.specs.{Text.Text, Weight.types_instance_weight, Weight.whole_instance_weight}
use Rattle.wit_model.specs.declared.model.{Resolve.Resolve, Function.Function, InterfaceId.InterfaceId, TypeId.TypeId, «Type».«Type» as ValueType}
use Rattle.comp_bytes.specs.Raw.{Declaration, Declarations, from_list}
use Rattle.encode_types.specs.{Extents.function_extent, Extents.known_extent, Extents.number_extent, MetKinds.ReachedFrom, MetKinds.referred}
use Rattle.encode_types.specs.declared.maps.TypeEncodingMaps.{TypeEncodingMaps}
use Rattle.encode_names.specs.{WorldNames.name_of_interface, WorldSteps.Entry}
use Rattle.wit_encode.specs.Extents.{instance_extent, item_extent}
use Rattle.wit_encode.specs.{Instance.declared_extent, Instance.placed_function, Encoders.InstanceEncoder, Encoders.Placed, Encoders.plain}

-- at most so many bytes more
pub record AddsBytes (n : ℕ) (outer outer' : Declarations) : Type 0 where
  pub few : declared_extent outer' ≤ declared_extent outer + n

-- at most so many bytes more, and those of each type number that the maps have learnt in the scope of no interface
pub record AddsLearnt (r : Resolve) (n : ℕ) (m m' : TypeEncodingMaps) (outer outer' : Declarations) : Type 0 where
  pub few : declared_extent outer' + known_extent r None m ≤ declared_extent outer + (known_extent r None m' + n)

-- From before to after there are at most the bytes of these functions, and of type numbers that are met from these types, each once.
pub record TakesFew (r : Resolve) (i : InterfaceId) (types : List ValueType) (functions : List (Text × Function)) (before after : ℕ) : Type 0 where
  pub numbers : List ℕ
  pub different : AllPairs (λ x y. nat_eq x y ≡ false) numbers
  pub met : (n : ℕ) → Contains numbers n → ReachedFrom r (Some i) types n
  pub few : after ≤ before + (sum_by (number_extent r (Some i)) numbers + sum_by (function_extent r) functions)

-- So it is with these types and functions of interface i, in the component type and an instance type in it, or in the component type with the
-- instance type behind it.
abbrev pub TakesInside : InstanceEncoder → InstanceEncoder → InterfaceId → List TypeId → List Placed → List Declaration → Type 0
TakesInside e e' i types fs ds = TakesFew e.resolve.now i (referred types (plain fs)) (map placed_function fs) (declared_extent e.outer)
    (declared_extent e'.outer + declared_extent (from_list ds))

abbrev pub TakesPart : InstanceEncoder → InstanceEncoder → InterfaceId → List TypeId → List Placed → Type 0
TakesPart e e' i types fs = TakesFew e.resolve.now i (referred types (plain fs)) (map placed_function fs) (declared_extent e.outer + 8)
    (declared_extent e'.outer)

-- the instance type of an interface, or of its types alone, with what stands before it
abbrev pub whole_extent : Resolve → ℕ → ℕ
whole_extent r n = 8 + whole_instance_weight r n

abbrev pub types_extent : Resolve → ℕ → ℕ
types_extent r n = 8 + types_instance_weight r n

-- the imports of interfaces, by their types alone
abbrev pub imports_extent : Resolve → Bool → List ℕ → ℕ
imports_extent r canonical ns = sum_by (λ n. instance_extent (name_of_interface r canonical n) (types_instance_weight r n)) ns

-- imports and exports of a world
abbrev pub items_extent : Resolve → Bool → List Entry → ℕ
items_extent r canonical es = sum_by (item_extent r canonical) es
