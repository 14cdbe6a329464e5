-- Of which types aliases are made in the scope around, and what is imported in the scope itself: of those that are met, once for each.
use Rattle.std.specs.Prelude.{ℕ, ◌≡◌, ◌⊎◌, Bool, true, List, Option, Some}
use Rattle.std.specs.List.{Contains}
use Rattle.wit_model.specs.Lookup.{type_at}
use Rattle.wit_model.specs.declared.model.{Resolve.Resolve, TypeDef.TypeDef, InterfaceId.InterfaceId, «Type».«Type» as ValueType}
use Rattle.encode_types.specs.{Known.Around, Known.Aliased, Known.GrowsAround, Plan.foreign_owner, MetKinds.ReachedFrom, View.View}

-- a type of another interface, met on the way down from these types
pub record IsMetElsewhere (r : Resolve) (own : Option InterfaceId) (ts : List ValueType) (n : ℕ) : Type 0 where
  pub met : ReachedFrom r own ts n
  pub def : TypeDef
  pub there : type_at r n ≡ Some def
  pub interface : InterfaceId
  pub foreign : foreign_owner own def.owner ≡ Some interface

-- Nothing has been declared around but aliases of such types, each of one that had none.
pub record AliasesMet (r : Resolve) (own : Option InterfaceId) (ts : List ValueType) (a a' : Around) : Type 0 where
  pub grown : GrowsAround r a a'
  pub met : (x : Aliased) → Contains grown.made x → IsMetElsewhere r own ts x.number.0

-- around the scope of an encoder nothing has been declared but aliases of such types, each of one that had none
abbrev pub MakesMet : Resolve → List ValueType → View → View → Type 0
MakesMet r ts v v' = AliasesMet r v.scope.own_interface ts v.around v'.around

-- Of types of other interfaces, something has come to stand in a scope only for such types.
pub record NumbersMet (r : Resolve) (own : Option InterfaceId) (ts : List ValueType) (old new : ℕ → Bool) : Type 0 where
  pub each : (n : ℕ) → new n ≡ true → (old n ≡ true) ⊎ IsMetElsewhere r own ts n

-- so it is in the scope of an encoder
abbrev pub ImportsMet : Resolve → List ValueType → View → View → Type 0
ImportsMet r ts v v' = NumbersMet r v.scope.own_interface ts v.imports v'.imports
