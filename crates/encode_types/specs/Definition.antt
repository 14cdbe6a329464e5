-- Definitions that are written with the indexes of the maps.
use Rattle.std.specs.{Prelude.◌≡◌, Prelude.Option, Prelude.Some, Prelude.None, Borrow.Bor}
use Rattle.wit_model.specs.declared.model.{Resolve.Resolve, Field.Field, Case.Case, Param.Param, TypeDefKind.TypeDefKind, «Type».«Type» as ValueType}
use Rattle.wit_model.specs.Text.{Text, text_of}
use Rattle.comp_bytes.specs.declared.forms.{ComponentValType.ComponentValType, ComponentDefinedType.ComponentDefinedType}
use Rattle.encode_types.specs.declared.maps.TypeEncodingMaps.{TypeEncodingMaps}
use Rattle.encode_types.specs.{Kinds.kind_tree, Maps.IsWritten, Maps.Says, Slots.Follows}

-- a part that may be left out
abbrev pub IsWrittenOptional : TypeEncodingMaps → Option ComponentValType → Option ValueType → Type 0
IsWrittenOptional m None None = Unit {0}
IsWrittenOptional m (Some x) (Some t) = IsWritten m x t
IsWrittenOptional m _ _ = ⊥

abbrev pub IsWrittenField : TypeEncodingMaps → Bor Text × ComponentValType → Field → Type 0
IsWrittenField m x f = (x.0.now ≡ text_of f.name) × IsWritten m x.1 f.ty

abbrev pub IsWrittenParam : TypeEncodingMaps → Bor Text × ComponentValType → Param → Type 0
IsWrittenParam m x p = (x.0.now ≡ text_of p.name) × IsWritten m x.1 p.ty

abbrev pub IsWrittenCase : TypeEncodingMaps → Bor Text × Option ComponentValType → Case → Type 0
IsWrittenCase m x c = (x.0.now ≡ text_of c.name) × IsWrittenOptional m x.1 c.ty

-- a definition, where each index stands for what the maps say, is the tree of the kind
abbrev pub FollowsKind : TypeEncodingMaps → TypeDefKind → ComponentDefinedType → Type 0
FollowsKind m k d = (r : Resolve) → Follows (Says r m) d (kind_tree r k)
