-- What is shown of the declarations of a `Resolve` in a component type, every index followed (Component Model WIT.md, "Package Format").
-- Relations: what is shown of an interface is fixed but for the order of its functions.
use Rattle.std.specs.Prelude.{◌≡◌, ℕ, if◌then◌else◌, Bool, List, [], ◌∷◌, ◌++◌, map, Option, Some, None, String, ◌==◌}
use Rattle.std.specs.{Option.option_map_or, List.AllZip, List.Contains, List.IsDistinct, List.flat_map, List.Sorted.IsPermutation}
use Rattle.std.specs.declared.alloc.Global.{Global}
use Rattle.wit_model.specs.{Text.Text, Text.text_of, Meant.type_meaning_at, Meant.function_meaning, Meant.signature_of, Meant.item_external_id}
use Rattle.wit_model.specs.{Tree.Tree, Tree.Place, Names.PackageIdentity, Parts.is_resource, Uses.direct_deps, Meaning.FunctionMeaning}
use Rattle.wit_model.specs.Lookup.{interface_at, world_at, interface_path, key_text, place_of_path, identity_of}
use Rattle.wit_model.specs.declared.model.{Resolve.Resolve, Interface.Interface, InterfaceId.InterfaceId, TypeId.TypeId, WorldKey.WorldKey, WorldItem.WorldItem}
use Rattle.wit_model.specs.declared.model.{Package.Package, WorldId.WorldId, World.World}
use Rattle.comp_meaning.specs.Follow.{Slot, View, ShownType, Seen, Shown, Key, Instance, Scope, interface_of}
use Rattle.comp_meaning.specs.Reads.{Member, Part}
use Rattle.wit_model.specs.declared.model.WorldKey.TheVariants as key
use Rattle.wit_model.specs.declared.model.WorldItem.TheVariants as item

-- ---- interfaces

-- what a named type's name stands for in its place: a resource, or the type of a value
abbrev pub name_slot : Bool → Place → Text → Slot
name_slot is_one place name = if is_one then Slot.resource place name else Slot.value (Tree.named place name)

-- a named type of an interface as it is shown in this place
abbrev pub shown_type : Resolve → Place → String Global × TypeId → ShownType
shown_type r place e = record { name = text_of e.0; meaning = type_meaning_at r e.1.0; slot = name_slot (is_resource r e.1.0) place (text_of e.0) }

-- The names of a named interface stand in the place of its path, and those of an inline one here.
abbrev pub home_of : Resolve → ℕ → Place
home_of r n = place_of_path (interface_path r n)

-- the named types that are shown of interface n, in order
abbrev pub types_of : Resolve → ℕ → Interface → List ShownType
types_of r n i = map (shown_type r (home_of r n)) i.types.entries

-- the functions that are shown of an interface, in the order of its map
abbrev pub functions_of : Resolve → Interface → List (Text × FunctionMeaning)
functions_of r i = map (λ e. (text_of e.0, function_meaning r e.1)) i.functions.entries

-- The view shows the types of interface n, in order, and no functions.
pub record ShowsTypes (r : Resolve) (n : ℕ) (view : View) : Type 0 where
  pub types : view.types ≡ option_map_or (types_of r n) (interface_at r n) []
  pub functions : view.functions ≡ []

-- The view shows interface n: its types in order, and its functions in any order.
pub record ShowsInterface (r : Resolve) (n : ℕ) (view : View) : Type 0 where
  pub types : view.types ≡ option_map_or (types_of r n) (interface_at r n) []
  pub functions : IsPermutation (option_map_or (functions_of r) (interface_at r n) []) view.functions

-- ---- imports and exports of a world

-- the key under which an interface of this path stands, or an inline one
abbrev pub instance_key : WorldKey → Option Text → Key
instance_key (key.Interface id) (Some path) = Key.path path
instance_key (key.Name name) (Some path) = Key.implementing (text_of name) path
instance_key (key.Name name) None = Key.label (text_of name)
instance_key (key.Interface id) None = Key.path []

-- what is shown of an item; an interface by this view
abbrev pub shown_item : Resolve → WorldKey → WorldItem → View → Shown
shown_item r k (item.Interface id stability docs external_id) view = Shown.instance (instance_key k (interface_path r id.0)) view
shown_item r k (item.Function f) view = Shown.function (signature_of r f)
shown_item r k (item.Type_ id) view = Shown.declares (type_meaning_at r id.0).declaration

-- the view is one of the interface, where the item is one
abbrev pub IsViewOf : Resolve → WorldItem → View → Type 0
IsViewOf r (item.Interface id stability docs external_id) view = ShowsInterface r id.0 view
IsViewOf r (item.Function f) view = Unit {0}
IsViewOf r (item.Type_ id) view = Unit {0}

-- An import or an export of a world is shown so, its interface by some view.
pub record ShowsItem (r : Resolve) (e : WorldKey × WorldItem) (seen : Seen) : Type 0 where
  pub view : View
  pub is_view : IsViewOf r e.1 view
  pub is : seen ≡ record { key = key_text r e.0; shown = shown_item r e.0 e.1 view; external_id = item_external_id r e.1 }

-- the instance that an import or an export brings, if it is one
abbrev pub instances_of : Shown → List Instance
instances_of (Shown.instance key view) = record { interface = interface_of key; view = view } ∷ []
instances_of (Shown.function f) = []
instances_of (Shown.declares d) = []

-- The scope of a component type shows the world: its imports and its exports in order, with the instances of the imports and then
-- those of the exports.
pub record ShowsWorld (r : Resolve) (w : World) (scope : Scope) : Type 0 where
  pub imports : AllZip (ShowsItem r) w.imports.entries scope.imports
  pub exports : AllZip (ShowsItem r) w.exports.entries scope.exports
  pub instances : scope.instances ≡ flat_map (λ s. instances_of s.shown) (scope.imports ++ scope.exports)

-- ---- interfaces of a package

-- an import of another interface, by its path, with its types alone
pub record ShowsImport (r : Resolve) (n : ℕ) (imported : Text × View) : Type 0 where
  pub path : interface_path r n ≡ Some imported.0
  pub shows : ShowsTypes r n imported.1

-- each of these uses only earlier ones
abbrev pub UseEarlier : Resolve → List ℕ → List ℕ → Type 0
UseEarlier r earlier [] = Unit {0}
UseEarlier r earlier (n ∷ ns) = ((m : ℕ) → Contains (direct_deps r n) m → Contains earlier m) × UseEarlier r (earlier ++ n ∷ []) ns

-- each of these is used by a later one or by the last
abbrev pub AreUsed : Resolve → List ℕ → ℕ → Type 0
AreUsed r [] last = Unit {0}
AreUsed r (n ∷ ns) last = ((m : ℕ) × Contains (ns ++ last ∷ []) m × Contains (direct_deps r m) n) × AreUsed r ns last

-- The interfaces that interface n reaches: each once, behind those that it uses, and none that isn't reached.
pub record AreReached (r : Resolve) (n : ℕ) (ns : List ℕ) : Type 0 where
  pub earlier : UseEarlier r [] (ns ++ n ∷ [])
  pub used : AreUsed r ns n
  pub once : IsDistinct (λ a b. a == b) (ns ++ n ∷ [])

-- The imports and the view of the export of the component type of interface n.
pub record ShowsReached (r : Resolve) (n : ℕ) (imports : List (Text × View)) (exported : View) : Type 0 where
  pub numbers : List ℕ
  pub reached : AreReached r n numbers
  pub shown_imports : AllZip (ShowsImport r) numbers imports
  pub shows : ShowsInterface r n exported

-- ---- a package

-- the component type of interface n of this path: what it imports and exports
pub record ShowsDependencies (r : Resolve) (n : ℕ) (path : Text) (scope : Scope) (imports : List (Text × View)) (exported : View) : Type 0 where
  pub reached : ShowsReached r n imports exported
  pub imports_are : scope.imports ≡ map (λ i. record { key = i.0; shown = Shown.instance (Key.path i.0) i.1; external_id = None }) imports
  pub exports_are : scope.exports ≡ record { key = path; shown = Shown.instance (Key.path path) exported; external_id = None } ∷ []

-- an interface of the package, under its name
pub record ShowsInterfaceMember (r : Resolve) (p : PackageIdentity) (e : String Global × InterfaceId) (m : Member) : Type 0 where
  pub imports : List (Text × View)
  pub exported : View
  pub reached : ShowsReached r e.1.0 imports exported
  pub is : m ≡ record { label = text_of e.0; package_ = p; part = Part.interface exported imports }

-- a world of the package, under its name
pub record ShowsWorldMember (r : Resolve) (p : PackageIdentity) (e : String Global × WorldId) (m : Member) : Type 0 where
  pub world : World
  pub there : world_at r e.1.0 ≡ Some world
  pub scope : Scope
  pub shows : ShowsWorld r world scope
  pub is : m ≡ record { label = text_of e.0; package_ = p; part = Part.world scope }

-- The members show the package: its interfaces in order, and then its worlds.
pub record ShowsPackage (r : Resolve) (p : Package) (members : List Member) : Type 0 where
  pub interface_members : List Member
  pub world_members : List Member
  pub interfaces : AllZip (ShowsInterfaceMember r (identity_of p.name)) p.interfaces.entries interface_members
  pub worlds : AllZip (ShowsWorldMember r (identity_of p.name)) p.worlds.entries world_members
  pub are : members ≡ interface_members ++ world_members
