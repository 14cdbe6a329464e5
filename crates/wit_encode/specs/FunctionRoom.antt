-- Which functions of an interface have no room, behind what has been learnt.
use Rattle.std.specs.Prelude.{ℕ, ◌≡◌, ◌+◌, ◌⊎◌, true, List, map, flat_map, length, Option}
use Rattle.std.specs.{List.IsDistinct, Set.is_member}
use Rattle.wit_model.specs.Text.{Text}
use Rattle.wit_model.specs.declared.model.{Resolve.Resolve, Function.Function, InterfaceId.InterfaceId, «Type».«Type» as ValueType}
use Rattle.encode_types.specs.declared.maps.TypeEncodingMaps.{TypeEncodingMaps}
use Rattle.encode_types.specs.{Distinct.Key, Distinct.key_of, Distinct.are_same, Distinct.KnowsKey, Room.Refusals, Room.function_requests, Room.FindsNoRoom}

-- A part of a type that is met from these, or one of these functions, has no room. What is held is less than a sum. It adds up what was held,
-- what some type numbers take that are met and were new, one for each key of a function that wasn't known, and one for each function.
pub record LacksFunctions (r : Resolve) (own : Option InterfaceId) (ts : List ValueType) (fs : List (Text × Function)) (m : TypeEncodingMaps) (before after : ℕ)
    (N : Refusals) : Type 0 where
  pub keys : List Key
  pub different : IsDistinct are_same keys
  pub from : (key : Key) → is_member are_same keys key ≡ true → KnowsKey m key ⊎ (is_member are_same (map (λ f. key_of f.1) fs) key ≡ true)
  pub room : FindsNoRoom r own ts (flat_map (function_requests r) fs) (length keys + length fs) m before (after + length m.func_type_map.entries) N
