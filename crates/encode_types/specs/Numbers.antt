-- What is asked before a type number is defined, and what of a named type has no room.
use Rattle.std.specs.Prelude.{ℕ, ◌≡◌, ◌⊎◌, cond, Some, None}
use Rattle.comp_bytes.specs.Raw.{ExternName}
use Rattle.wit_model.specs.Lookup.{type_at}
use Rattle.wit_model.specs.declared.model.{Resolve.Resolve, TypeDef.TypeDef, TypeDefKind.TypeDefKind}
use Rattle.encode_types.specs.{Kinds.parts_of, Kinds.kind_tree, Kinds.has_definition, Maps.AllReady, Maps.LacksKind, View.View, View.HoldsMore, View.Refuses, Plan.foreign_owner, Room.value_type, Room.export_name}

-- the parts of a type number are known, where it isn't of another interface
abbrev pub PartsReady : Resolve → View → ℕ → Type 0
PartsReady r v n = (def : TypeDef) → type_at r n ≡ Some def → foreign_owner v.scope.own_interface def.owner ≡ None → AllReady v.maps (parts_of def.kind)

-- what a kind takes that is declared under a name, without its export
abbrev pub kind_count : TypeDefKind → ℕ
kind_count kind = cond (has_definition kind) 1 0

-- nothing more is held, or one more for an unnamed kind that the maps lacked
abbrev pub HoldsKind : TypeDefKind → View → View → Type 0
HoldsKind kind v v' = HoldsMore 0 v v' ⊎ (LacksKind v.maps kind × HoldsMore 1 v v')

-- an unnamed kind that the maps lacked has no room
pub record NewKindLacksRoom (r : Resolve) (kind : TypeDefKind) (v v' : View) : Type 0 where
  pub new : LacksKind v.maps kind
  pub refuses : Refuses v v' (value_type (kind_tree r kind))

-- the name of a type has no room, by when what it is defined as may be held
pub record NameLacksRoom (kind : TypeDefKind) (name : ExternName) (v v' : View) : Type 0 where
  pub lacks : v'.lacks_room (export_name name)
  pub held : HoldsMore (kind_count kind) v v'

-- what a named type is defined as has no room, or its export under this name
abbrev pub NamedLacksRoom : Resolve → TypeDef → ExternName → View → View → Type 0
NamedLacksRoom r def name v v' = Refuses v v' (value_type (kind_tree r def.kind)) ⊎ NameLacksRoom def.kind name v v'
