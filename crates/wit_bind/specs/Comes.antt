-- What comes of other bindings when they are merged into own ones: their packages, interfaces, worlds and types, by their numbers there.
use Rattle.std.specs.Prelude.{◌≡◌, ◌⊎◌, ℕ, ◌+◌, ◌<◌, Bool, true, not, ◌&&◌, is_some, List, [], map, None, Some}
use Rattle.std.specs.{FinMap.get, List.Contains, List.list_any, Option.option_map_or}
use Rattle.wit_model.specs.declared.model.{Function.Function, Interface.Interface, Package.Package, Resolve.Resolve, TypeOwner.TypeOwner, WorldItem.WorldItem, WorldKey.WorldKey}
use Rattle.wit_model.specs.declared.model.World.{World}
use Rattle.wit_model.specs.Lookup.{identity_of, interface_at, interface_path, key_text, path_of_interface, path_of_world, world_at}
use Rattle.wit_model.specs.{Rules.item_type, Text.Text, Text.text_eq, Uses.item_interface, Valid.item_function}
use Rattle.bind_meaning.specs.{Binding.package_text, Binding.Binding, Roots.root_path, ByNumbers.interfaces_by_path, ByNumbers.package_texts, ByNumbers.worlds_by_path, Clash.carried_worlds, Clash.entry_under}
use Rattle.bind_carry.specs.{MadeOf.Come, MadeOf.IsMadeUp, MadeOf.IsMet, MadeOf.IsOwnedBy, Marked.is_inline_at}
use Rattle.wit_bind.specs.declared.bindgen.Bindgen.{Bindgen}
use Rattle.wit_bind.specs.Bindings.{binding_of}
use Rattle.wit_model.specs.declared.model.TypeOwner.TheVariants as owner

-- ---- by name and by path

-- whether a text is one of these
abbrev pub is_one_of : List Text → Text → Bool
is_one_of texts text = list_any (text_eq text) texts

-- whether a package of the other binding comes: none of this name is here
abbrev pub is_new_package : Resolve → Package → Bool
is_new_package own p = not (is_one_of (package_texts own) (package_text (identity_of p.name)))

-- whether an interface of the other binding comes: none of its path is here, or it has none, since it is inline
abbrev pub is_new_interface : Resolve → Resolve → Interface → Bool
is_new_interface own other i = option_map_or (λ path. not (is_one_of (map (λ e. e.0) (interfaces_by_path own)) path)) (path_of_interface other i) true

-- whether a world of the other binding comes: none of its path is here, and it isn't the root world
abbrev pub is_new_world : Resolve → Resolve → World → Bool
is_new_world own other w = option_map_or (λ path. not (text_eq path root_path) && not (is_one_of (map (λ e. e.0) (worlds_by_path own)) path))
    (path_of_world other w) true

-- The world of this number comes.
pub record WorldComes (own other : Resolve) (n : ℕ) : Type 0 where
  pub world : World
  pub found : world_at other n ≡ Some world
  pub is_new : is_new_world own other world ≡ true

-- The interface of this number has a name, and comes by its path.
pub record NamedComes (own other : Resolve) (n : ℕ) : Type 0 where
  pub interface : Interface
  pub found : interface_at other n ≡ Some interface
  pub named : is_some interface.name ≡ true
  pub is_new : is_new_interface own other interface ≡ true

-- The interface of this number is inline, and a world that comes imports or exports it.
pub record InlineComes (own other : Resolve) (n : ℕ) : Type 0 where
  pub inline : is_inline_at other n ≡ true
  pub place : ℕ
  pub comes : WorldComes own other place
  pub entry : WorldKey × WorldItem
  pub held : Contains comes.world.imports.entries entry ⊎ Contains comes.world.exports.entries entry
  pub shown : item_interface entry.1 ≡ Some n

-- The interface of this number comes: by its path, or with a world.
abbrev pub InterfaceComes : Resolve → Resolve → ℕ → Type 0
InterfaceComes own other n = NamedComes own other n ⊎ InlineComes own other n

-- The function is one of an interface that comes.
pub record IsInterfaceFunction (own other : Resolve) (f : Function) : Type 0 where
  pub place : ℕ
  pub comes : InterfaceComes own other place
  pub interface : Interface
  pub found : interface_at other place ≡ Some interface
  pub held : Contains (map (λ e. e.1) interface.functions.entries) f

-- It is an import or an export of a world that comes.
pub record IsWorldFunction (own other : Resolve) (f : Function) : Type 0 where
  pub place : ℕ
  pub comes : WorldComes own other place
  pub entry : WorldKey × WorldItem
  pub held : Contains comes.world.imports.entries entry ⊎ Contains comes.world.exports.entries entry
  pub is_function : item_function entry.1 ≡ Some f

-- The function comes: with an interface, or with a world.
abbrev pub FunctionComes : Resolve → Resolve → Function → Type 0
FunctionComes own other f = IsInterfaceFunction own other f ⊎ IsWorldFunction own other f

-- ---- types that come by path

-- the owner of a type comes
abbrev pub OwnerComes : Resolve → Resolve → TypeOwner → Type 0
OwnerComes own other (owner.Interface id) = InterfaceComes own other id.0
OwnerComes own other (owner.World id) = WorldComes own other id.0
OwnerComes own other owner.None = ⊥

-- the owner of a type comes, or it is an interface with a path, which is here if it doesn't come
abbrev pub OwnerStands : Resolve → Resolve → TypeOwner → Type 0
OwnerStands own other (owner.Interface id) = (is_some (interface_path other id.0) ≡ true) ⊎ InterfaceComes own other id.0
OwnerStands own other (owner.World id) = WorldComes own other id.0
OwnerStands own other owner.None = ⊥

-- A type comes with its owner. A type without a name comes, if the owners of all that it is made of come or stand here, and something that comes names it.
-- That is a function, a type whose owner comes, or a type without a name that is named so itself.
abbrev pub TypeComes : Resolve → Resolve → ℕ → Type 0
TypeComes own other n = IsOwnedBy other.types.items (OwnerComes own other) n ⊎ (IsMadeUp other.types.items (OwnerStands own other) n
    × IsMet other.types.items (FunctionComes own other) (IsOwnedBy other.types.items (OwnerComes own other)) n)

-- ---- what the own bound world gains

-- what a bound world imports
abbrev pub bound_imports : Bindgen → List (WorldKey × WorldItem)
bound_imports b = option_map_or (λ w. w.imports.entries) (world_at b.resolve b.world.0) []

-- what a bound world exports
abbrev pub bound_exports : Bindgen → List (WorldKey × WorldItem)
bound_exports b = option_map_or (λ w. w.exports.entries) (world_at b.resolve b.world.0) []

-- An import of the other's bound world is gained, if the own one has none under its label or path.
pub record ImportIsGained (own other : Bindgen) (e : WorldKey × WorldItem) : Type 0 where
  pub held : Contains (bound_imports other) e
  pub is_new : entry_under (key_text other.resolve e.0) (binding_of own).bound.imports ≡ None

-- An export of the other's bound world is gained, if the own one has none under its label or path.
pub record ExportIsGained (own other : Bindgen) (e : WorldKey × WorldItem) : Type 0 where
  pub held : Contains (bound_exports other) e
  pub is_new : entry_under (key_text other.resolve e.0) (binding_of own).bound.exports ≡ None

-- It is gained as an import, or as an export.
abbrev pub IsGained : Bindgen → Bindgen → WorldKey × WorldItem → Type 0
IsGained own other e = ImportIsGained own other e ⊎ ExportIsGained own other e

-- The interface of this number is inline, and what is gained shows it.
pub record InlineIsGained (own other : Bindgen) (n : ℕ) : Type 0 where
  pub inline : is_inline_at other.resolve n ≡ true
  pub entry : WorldKey × WorldItem
  pub gained : IsGained own other entry
  pub shown : item_interface entry.1 ≡ Some n

-- The type of this number is an import that is gained.
pub record TypeIsImport (own other : Bindgen) (n : ℕ) : Type 0 where
  pub entry : WorldKey × WorldItem
  pub gained : ImportIsGained own other entry
  pub is_type : item_type entry.1 ≡ Some n

-- the owner of a type is an inline interface that is gained
abbrev pub OwnerIsGained : Bindgen → Bindgen → TypeOwner → Type 0
OwnerIsGained own other (owner.Interface id) = InlineIsGained own other id.0
OwnerIsGained own other _ = ⊥

-- the owner of a type is an interface with a path, an inline interface that is gained, or the other's bound world
abbrev pub OwnerIsShown : Bindgen → Bindgen → TypeOwner → Type 0
OwnerIsShown own other (owner.Interface id) = (is_some (interface_path other.resolve id.0) ≡ true) ⊎ InlineIsGained own other id.0
OwnerIsShown own other (owner.World id) = id.0 ≡ other.world.0
OwnerIsShown own other owner.None = ⊥

-- The function is one of an inline interface that is gained.
pub record IsInlineFunction (own other : Bindgen) (f : Function) : Type 0 where
  pub place : ℕ
  pub gained : InlineIsGained own other place
  pub interface : Interface
  pub found : interface_at other.resolve place ≡ Some interface
  pub held : Contains (map (λ e. e.1) interface.functions.entries) f

-- It is an import or an export that is gained.
pub record IsGainedFunction (own other : Bindgen) (f : Function) : Type 0 where
  pub entry : WorldKey × WorldItem
  pub gained : IsGained own other entry
  pub is_function : item_function entry.1 ≡ Some f

-- The function is gained: with an inline interface, or as an import or an export.
abbrev pub FunctionIsGained : Bindgen → Bindgen → Function → Type 0
FunctionIsGained own other f = IsInlineFunction own other f ⊎ IsGainedFunction own other f

-- A type with a name is gained with its inline interface, or as an import.
abbrev pub NamedIsGained : Bindgen → Bindgen → ℕ → Type 0
NamedIsGained own other n = IsOwnedBy other.resolve.types.items (OwnerIsGained own other) n ⊎ TypeIsImport own other n

-- A type without a name is gained, if the owners of all that it is made of are such as items of the bound world have, and something that is gained names it.
-- That is a function, a type with a name, or a type without a name that is named so itself.
abbrev pub TypeIsGained : Bindgen → Bindgen → ℕ → Type 0
TypeIsGained own other n = NamedIsGained own other n ⊎ (IsMadeUp other.resolve.types.items (OwnerIsShown own other) n
    × IsMet other.resolve.types.items (FunctionIsGained own other) (NamedIsGained own other) n)

-- ---- how much

-- A list gets longer by what comes by path and by what the bound world gains.
pub record GrowsBy (First Second : ℕ → Type 0) (old new : ℕ) : Type 0 where
  pub first : ℕ
  pub first_come : Come First first
  pub second : ℕ
  pub second_come : Come Second second
  pub length_is : new ≡ old + (first + second)

-- A list of this length would pass the longest with it.
pub record Outgrows (First Second : ℕ → Type 0) (old : ℕ) : Type 0 where
  pub first : ℕ
  pub first_come : Come First first
  pub second : ℕ
  pub second_come : Come Second second
  pub too_long : 4294967295 < old + (first + second)

-- ---- nothing

-- Nothing of the other binding is new: each of its paths, and each import and export of its bound world, is here under its path or label. Its world
-- `root:root/root` isn't looked at.
pub record BringsNothing (own other : Binding) : Type 0 where
  pub interfaces : (path : Text) → is_some (get other.interfaces path) ≡ true → is_some (get own.interfaces path) ≡ true
  pub worlds : (path : Text) → is_some (get (carried_worlds other) path) ≡ true → is_some (get own.worlds path) ≡ true
  pub imports : (key : Text) → is_some (entry_under key other.bound.imports) ≡ true → is_some (entry_under key own.bound.imports) ≡ true
  pub exports : (key : Text) → is_some (entry_under key other.bound.exports) ≡ true → is_some (entry_under key own.bound.exports) ≡ true
