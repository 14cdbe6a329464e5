-- An encoder of interfaces as its users see it: what it holds, what its calls ask and leave.
use Rattle.std.specs.Prelude.{ℕ, ◌≡◌, ◌≤◌, ◌⊎◌, Bool, true, false, List, [], ◌∷◌, ◌++◌, length, map, nat_lt, Some, is_some}
use Rattle.std.specs.List.{Contains, list_all}
use Rattle.wit_model.specs.{Lookup.interface_at, Valid.IsValid}
use Rattle.wit_model.specs.declared.model.{Interface.Interface, InterfaceId.InterfaceId, Resolve.Resolve, TypeOwner.TypeOwner}
use Rattle.encode_reach.specs.Reach.{reached_in_order}
use Rattle.encode_types.specs.{Known.Around, Known.known_instance, Slots.Keeps, View.Grows, View.View}
use Rattle.wit_interfaces.specs.declared.encoder.InterfaceEncoderOf.{InterfaceEncoderOf}
use Rattle.wit_encode.specs.{Dependencies.ImportsTypes, DependencyRoom.LacksImport, Encoders.InterfaceLacksRoom, OwnerScope.IsScopeOf}
use Rattle.wit_encode.specs.Instance.{AliasesFor, AliasesForTypes, EncodesDependency, EncodesInterface, LacksInstanceRoom, whole_interface}
use Rattle.wit_encode.specs.{Worlds.WorldEncoder, Worlds.world_around, Worlds.world_encoder_view, WrittenBytes.AddsBytes, WrittenBytes.whole_extent}
use Rattle.wit_model.specs.declared.model.TypeOwner.TheVariants as owner

-- an encoder of an interface, over an encoder of a world
abbrev pub InterfaceEncoder : Type 0
InterfaceEncoder = InterfaceEncoderOf WorldEncoder

-- ---- what it holds

-- the encoder of its component type
abbrev pub encoder_in : {E : Type 0} → InterfaceEncoderOf E → E
encoder_in e = e.encoder

-- the encoder of interfaces, with another encoder of its component type
abbrev pub with_encoder : {E : Type 0} → InterfaceEncoderOf E → E → InterfaceEncoderOf E
with_encoder e x = record e { encoder = x }

-- what an encoder of interfaces holds: its component type, as the scope of a world that has no types
abbrev pub interface_encoder_view : InterfaceEncoder → View
interface_encoder_view e = world_encoder_view e.encoder

-- the packages whose interfaces it encodes
abbrev pub packages_of : InterfaceEncoder → Resolve
packages_of e = (interface_encoder_view e).scope.packages

-- the interfaces of which an instance stands
abbrev pub standing_in : InterfaceEncoder → List ℕ
standing_in e = (interface_encoder_view e).scope.instances

-- the numbers of interfaces
abbrev pub numbers_of : List InterfaceId → List ℕ
numbers_of interfaces = map (λ (id : InterfaceId). id.0) interfaces

-- the world whose scope its component type is
abbrev pub world_of : InterfaceEncoder → TypeOwner
world_of e = owner.World e.encoder.world

-- the component type of an encoder of interfaces, in which instances and aliases stand
abbrev pub component_of : InterfaceEncoder → Around
component_of e = world_around e.encoder

-- whether its imports have canonical paths
abbrev pub has_canonical_names : InterfaceEncoder → Bool
has_canonical_names e = e.canonical_names

-- whether an interface has been imported
abbrev pub has_listed : InterfaceEncoder → ℕ → Bool
has_listed e i = is_some (known_instance (component_of e).instances i)

-- Interfaces can be encoded and imported: the packages are valid, what has been declared can be followed, what is listed stands, and each
-- instance is counted and has used an instance type of its own.
pub record CanEncodeInterfaces (v : View) : Type 0 where
  pub valid : IsValid v.scope.packages
  pub sound : v.scope.is_sound ≡ true
  pub listed : (i k : ℕ) → known_instance v.scope.others.listed i ≡ Some k → Contains v.scope.instances i
  pub counted : v.scope.others.instance_count ≡ length v.scope.others.instances
  pub typed : v.scope.others.instance_count ≤ v.scope.others.instance_types
  pub used : list_all (λ n. nat_lt n v.slot_count) v.scope.others.used ≡ true

-- ---- what a call leaves, also where it is refused

-- The packages, the kind of names and the maps are the same, old slots stand for what they did, the same interfaces stand, and what the calls
-- require holds.
pub record LeavesInterfaces (e e' : InterfaceEncoder) : Type 0 where
  pub packages_ : packages_of e' ≡ packages_of e
  pub names : has_canonical_names e' ≡ has_canonical_names e
  pub maps_ : (interface_encoder_view e').maps ≡ (interface_encoder_view e).maps
  pub stands : Keeps (interface_encoder_view e).stands (interface_encoder_view e').stands
  pub instances : (j : ℕ) → Contains (standing_in e) j → Contains (standing_in e') j
  pub can : CanEncodeInterfaces (interface_encoder_view e')

-- ---- what a call has added

-- slot k of the component type is new, and stands for the interface
abbrev pub EncodesInterfaceAs : InterfaceEncoder → InterfaceEncoder → InterfaceId → ℕ → Type 0
EncodesInterfaceAs e e' i k = (def : Interface) → interface_at (packages_of e) i.0 ≡ Some def
    → EncodesInterface (packages_of e) (component_of e) (component_of e') i def k

-- nothing is new but aliases of types of other interfaces that are met from the interface
abbrev pub AddsAliases : InterfaceEncoder → InterfaceEncoder → InterfaceId → Type 0
AddsAliases e e' i = AliasesFor (packages_of e) i (component_of e) (component_of e')

-- nothing is new but aliases of types of other interfaces that are met from the interface's types
abbrev pub AddsAliasesForTypes : InterfaceEncoder → InterfaceEncoder → InterfaceId → Type 0
AddsAliasesForTypes e e' i = AliasesForTypes (packages_of e) i (component_of e) (component_of e')

-- the component type has grown by no more bytes than the interface takes
abbrev pub AddsInterfaceBytes : InterfaceEncoder → InterfaceEncoder → InterfaceId → Type 0
AddsInterfaceBytes e e' i = AddsBytes (whole_extent (packages_of e) i.0) (component_of e).declared (component_of e').declared

-- The interface had been imported, and nothing is new. Or its types have been encoded, and imported as the next instance.
pub data Imports (e e' : InterfaceEncoder) (i : InterfaceId) : Type 0 where
  as_before : has_listed e i.0 ≡ true → e' ≡ e → Imports e e' i
  imported : has_listed e i.0 ≡ false
      → ImportsTypes (packages_of e) (has_canonical_names e) (component_of e) (component_of e') i (length (interface_encoder_view e).scope.others.instances)
      → Imports e e' i

-- Nothing is new but aliases that the interface's types ask for, and one instance type of them at most. Nothing uses that one, so a component
-- type with it isn't read.
pub data ImportsInPart (e e' : InterfaceEncoder) (i : InterfaceId) : Type 0 where
  aliases : AddsAliasesForTypes e e' i → ImportsInPart e e' i
  unused : (def : Interface) (k : ℕ) → interface_at (packages_of e) i.0 ≡ Some def
      → EncodesDependency (packages_of e) (component_of e) (component_of e') i def k → ImportsInPart e e' i

-- These have been imported, one after the other, each where it had not been.
abbrev pub ImportsAll : InterfaceEncoder → InterfaceEncoder → List InterfaceId → Type 0
ImportsAll e e' [] = e' ≡ e
ImportsAll e e' (i ∷ rest) = (between : InterfaceEncoder) × Imports e between i × LeavesInterfaces e between × ImportsAll between e' rest

-- The first of these have been imported, and this one is the next.
pub record ImportsUpTo (e e' : InterfaceEncoder) (interfaces : List InterfaceId) (next : InterfaceId) : Type 0 where
  pub before : List InterfaceId
  pub rest : List InterfaceId
  pub are : interfaces ≡ before ++ (next ∷ rest)
  pub imports : ImportsAll e e' before

-- Some first ones of these have been imported, and the next in part.
pub record ImportsSome (e e' : InterfaceEncoder) (interfaces : List InterfaceId) : Type 0 where
  pub next : InterfaceId
  pub between : InterfaceEncoder
  pub before : ImportsUpTo e between interfaces next
  pub in_part : ImportsInPart between e' next

-- the numbers that an interface reaches, in the order in which it comes to them, each behind those that it uses itself
abbrev pub AreReachedBy : Resolve → InterfaceId → List InterfaceId → Type 0
AreReachedBy r i interfaces = numbers_of interfaces ≡ reached_in_order r i.0

-- all that the interface reaches has been imported
pub record ImportsReached (e e' : InterfaceEncoder) (i : InterfaceId) : Type 0 where
  pub reached : List InterfaceId
  pub are : AreReachedBy (packages_of e) i reached
  pub imports : ImportsAll e e' reached

-- Nothing is new. Or of what the interface reaches some first ones have been imported, and the next in part.
pub data ImportsReachedInPart (e e' : InterfaceEncoder) (i : InterfaceId) : Type 0 where
  unchanged : e' ≡ e → ImportsReachedInPart e e' i
  some : (reached : List InterfaceId) → AreReachedBy (packages_of e) i reached → ImportsSome e e' reached → ImportsReachedInPart e e' i

-- ---- what has no room

-- An instance type has no room for the types and functions of the interface. Or the component type, after aliases have been made, has none
-- for one more alias or instance type.
abbrev pub LacksRoomFor : InterfaceEncoder → InterfaceId → Type 0
LacksRoomFor e i = (def : Interface) → interface_at (packages_of e) i.0 ≡ Some def → InterfaceLacksRoom (packages_of e) i def
    ⊎ LacksInstanceRoom (packages_of e) i (whole_interface def) (component_of e)

-- the types of an interface can't be imported for want of room
abbrev pub LacksRoomToImport : InterfaceEncoder → InterfaceId → Type 0
LacksRoomToImport e i = LacksImport (packages_of e) (has_canonical_names e) (component_of e) i

-- one of these can't be imported, behind those in front of it
pub record LacksOneImport (e : InterfaceEncoder) (interfaces : List InterfaceId) : Type 0 where
  pub next : InterfaceId
  pub between : InterfaceEncoder
  pub before : ImportsUpTo e between interfaces next
  pub lacks : LacksRoomToImport between next

-- one that the interface reaches can't be imported, behind those in front of it
pub record LacksReached (e : InterfaceEncoder) (i : InterfaceId) : Type 0 where
  pub reached : List InterfaceId
  pub are : AreReachedBy (packages_of e) i reached
  pub lacks : LacksOneImport e reached

-- ---- laws

-- where old slots stay and what is around is the same, interfaces can still be encoded and imported
abbrev pub DefinitionsLeaveInterfaces : Type 0
DefinitionsLeaveInterfaces = (e e' : InterfaceEncoder) → CanEncodeInterfaces (interface_encoder_view e)
    → Grows (interface_encoder_view e) (interface_encoder_view e') → (interface_encoder_view e').scope ≡ (interface_encoder_view e).scope
    → CanEncodeInterfaces (interface_encoder_view e')

-- The scope of an encoder in use is that of an owner: a world that has no types. So types can be encoded in it whose names are those of named interfaces
-- of which an instance stands.
abbrev pub InterfaceScope : Type 0
InterfaceScope = (e : InterfaceEncoder) → CanEncodeInterfaces (interface_encoder_view e)
    → IsScopeOf (packages_of e) (world_of e) (interface_encoder_view e).scope
