-- The component type of an interface: it imports the types of each interface that it reaches, and exports itself, all by their paths
-- (Component Model WIT.md, "Package Format").
use Rattle.std.specs.Prelude.{ℕ, ◌≡◌, ◌==◌, Bool, true, is_some, List, [], ◌∷◌, ◌++◌, length, map, Some, None, slice_get, nat_lt}
use Rattle.std.specs.{List.AllZip, List.Contains, List.IsDistinct, List.list_all, BTreeMap.insert_entry, Ordering.nat_cmp}
use Rattle.wit_model.specs.{Text.Text, Lookup.interface_at, Lookup.interface_path, Uses.direct_deps, Valid.IsValid}
use Rattle.wit_model.specs.declared.model.{Resolve.Resolve, Interface.Interface, InterfaceId.InterfaceId}
use Rattle.comp_bytes.specs.Raw.{Declaration, Declarations, append}
use Rattle.comp_meaning.specs.Follow.{Instance, Key, Scope, Seen, Shown, View, component_scope, instance_types}
use Rattle.encode_shown.specs.Views.{AreReached, ShowsDependencies, ShowsImport, UseEarlier}
use Rattle.encode_names.specs.WorldNames.{name_of_interface}
use Rattle.encode_types.specs.Known.{Around, GrowsAround, UsedStand, are_right, known_instance, no_around, outer_scope, outer_slots, standing_instances}
use Rattle.wit_encode.specs.Instance.{EncodesDependency, EncodesInterface}
use Rattle.comp_bytes.specs.declared.forms.ComponentTypeRef.TheVariants as refs

-- an interface that is imported by its path, with this view
abbrev pub seen_import : Text × View → Seen
seen_import i = record { key = i.0; shown = Shown.instance (Key.path i.0) i.1; external_id = None }

-- the instance that such an import brings
abbrev pub imported_instance : Text × View → Instance
imported_instance i = record { interface = Some i.0; view = i.1 }

-- The types of the interfaces of these numbers have been imported, in order, each as the instance of its place, and nothing else has been
-- imported or exported. Each instance type has been used. These instances are listed, and no others, and what is listed of aliases is right.
pub record HasImported (r : Resolve) (around : Around) (numbers : List ℕ) : Type 0 where
  pub scope : Scope
  pub followed : outer_scope around.declared ≡ Some scope
  pub views : List (Text × View)
  pub shown : AllZip (ShowsImport r) numbers views
  pub imports : scope.imports ≡ map seen_import views
  pub exports : scope.exports ≡ []
  pub instances : scope.instances ≡ map imported_instance views
  pub used : length scope.used ≡ instance_types scope.slots
  pub in_range : list_all (λ n. nat_lt n (length scope.slots)) scope.used ≡ true
  pub right : are_right r around.known (outer_slots around.declared) ≡ true
  pub listed : (k n : ℕ) → slice_get numbers k ≡ Some n → known_instance around.instances n ≡ Some k
  pub alone : (n k : ℕ) → known_instance around.instances n ≡ Some k → Contains numbers n

-- behind an instance type in slot k, the import that uses it, as the instance of this number
abbrev pub with_import : Resolve → Bool → InterfaceId → ℕ → ℕ → Around → Around
with_import r canonical i k number around = record around {
  declared = append around.declared (Declarations.declares (Declaration.imported (name_of_interface r canonical i.0) (refs.Instance k)) Declarations.no_more);
  instances = insert_entry nat_cmp around.instances i.0 number;
}

-- behind an instance type in slot k, the export that uses it
abbrev pub with_export : Resolve → Bool → InterfaceId → ℕ → Declarations → Declarations
with_export r canonical i k declared = append declared (Declarations.declares (Declaration.exported (name_of_interface r canonical i.0) (refs.Instance k))
    Declarations.no_more)

-- the types of an interface have been encoded, and imported as the instance of this number
pub record ImportsTypes (r : Resolve) (canonical : Bool) (around around' : Around) (i : InterfaceId) (number : ℕ) : Type 0 where
  pub def : Interface
  pub there : interface_at r i.0 ≡ Some def
  pub slot : ℕ
  pub encoded : Around
  pub encodes : EncodesDependency r around encoded i def slot
  pub imports : around' ≡ with_import r canonical i slot number encoded

-- These interfaces can be imported in this order: each has a path, uses only earlier ones, and stands once.
pub record AreImportable (r : Resolve) (numbers : List ℕ) : Type 0 where
  pub earlier : UseEarlier r [] numbers
  pub once : IsDistinct (λ a b. a == b) numbers
  pub paths : (n : ℕ) → Contains numbers n → is_some (interface_path r n) ≡ true

-- The declarations show interface n, exported by its path, behind the types of the interfaces that it reaches.
pub record ShowsComponent (r : Resolve) (n : ℕ) (path : Text) (declared : Declarations) : Type 0 where
  pub scope : Scope
  pub follows : component_scope declared ≡ Some scope
  pub imports : List (Text × View)
  pub exported : View
  pub shows : ShowsDependencies r n path scope imports exported

-- So they show this interface by whichever path it has.
abbrev pub ShowsComponentAt : Resolve → ℕ → Declarations → Type 0
ShowsComponentAt r n declared = (path : Text) → interface_path r n ≡ Some path → ShowsComponent r n path declared

-- ---- laws

-- Nothing has been imported where nothing has been declared.
abbrev pub NothingIsImported : Type 0
NothingIsImported = (r : Resolve) → HasImported r no_around []

-- Aliases leave what has been imported.
abbrev pub AliasesLeaveImports : Type 0
AliasesLeaveImports = (r : Resolve) (around around' : Around) (numbers : List ℕ) → HasImported r around numbers → GrowsAround r around around'
    → HasImported r around' numbers

-- Instances of the interfaces that have been imported stand, so an interface that uses no others can be encoded.
abbrev pub ImportsStand : Type 0
ImportsStand = (r : Resolve) (around : Around) (numbers : List ℕ) (i : ℕ) → IsValid r → HasImported r around numbers
    → ((m : ℕ) → Contains (direct_deps r i) m → Contains numbers m)
    → UsedStand r (standing_instances r around) i

-- A dependency that is encoded and then imported is one import more.
abbrev pub ImportsGrow : Type 0
ImportsGrow = (r : Resolve) (canonical : Bool) (around around' : Around) (numbers : List ℕ) (i : InterfaceId) (def : Interface) (path : Text) (k : ℕ)
    → IsValid r → interface_path r i.0 ≡ Some path
    → HasImported r around numbers → known_instance around.instances i.0 ≡ None → EncodesDependency r around around' i def k
    → HasImported r (with_import r canonical i k (length numbers) around') (numbers ++ i.0 ∷ [])

-- The interface itself, encoded and then exported, ends its component type.
abbrev pub ExportsEnd : Type 0
ExportsEnd = (r : Resolve) (canonical : Bool) (around around' : Around) (numbers : List ℕ) (i : InterfaceId) (def : Interface) (path : Text) (k : ℕ) → IsValid r
    → interface_path r i.0 ≡ Some path
    → HasImported r around numbers → AreReached r i.0 numbers → EncodesInterface r around around' i def k
    → ShowsComponent r i.0 path (with_export r canonical i k around'.declared)
