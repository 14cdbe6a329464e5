-- The order of the functions of an interface.
use Rattle.std.specs.Prelude.{ℕ, ◌≡◌, Bool, false, not, nat_eq, List, [], ◌∷◌, ◌++◌, filter, map}
use Rattle.std.specs.{Option.option_map_or, Option.is_some, List.list_any, List.position, List.position_or_len, BTreeMap.BTreeMap, BTreeMap.get}
use Rattle.std.specs.Ordering.{nat_cmp}
use Rattle.indexmap.specs.IndexMap.{values}
use Rattle.wit_model.specs.{Text.Text, Text.text_of, Lookup.resource_of}
use Rattle.wit_model.specs.declared.model.{TypeId.TypeId, Function.Function, FunctionKind.FunctionKind, Interface.Interface}

-- whether a kind of function is a constructor, a method or a static function of this resource
abbrev pub is_kind_of : FunctionKind → TypeId → Bool
is_kind_of kind t = option_map_or (λ n. nat_eq n t.0) (resource_of kind) false

-- whether a function is a constructor, a method or a static function of this resource
abbrev pub is_function_of : TypeId → Text × Function → Bool
is_function_of t f = is_kind_of f.1.kind t

-- whether one of these functions is a constructor, a method or a static function of a resource
abbrev pub any_of_resource : List (Text × Function) → Bool
any_of_resource fs = list_any (λ f. is_some (resource_of f.1.kind)) fs

-- functions of the first type's resource, then those of the next one's, and at the end the others, each in the order that they have
abbrev pub by_resource : List TypeId → List (Text × Function) → List (Text × Function)
by_resource [] fs = fs
by_resource (t ∷ ts) fs = filter (is_function_of t) fs ++ by_resource ts (filter (λ f. not (is_function_of t f)) fs)

-- Functions of resources by the order of their resource in the interface's types, then the others, and each of these in the order of
-- the map.
abbrev pub functions_in_order : Interface → List (Text × Function)
functions_in_order def = by_resource (values def.types) (map (λ e. (text_of e.0, e.1)) def.functions.entries)

-- where the resource of a function stands among types, or how many there are
abbrev pub place_among : List TypeId → Function → ℕ
place_among ts f = position_or_len (is_kind_of f.kind) ts

-- where each type number stands first among types
pub record ArePlaces (ts : List TypeId) (places : BTreeMap ℕ ℕ) : Type 0 where
  pub at : (n : ℕ) → get nat_cmp places n ≡ position (λ t. nat_eq n t.0) ts
