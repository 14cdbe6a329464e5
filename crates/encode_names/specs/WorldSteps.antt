-- What is shown of a world import by import and then export by export: one declaration more in its component type, followed, shows one
-- item more (Component Model Binary.md, "Import and Export Definitions").
use Rattle.std.specs.Prelude.{◌≡◌, ◌≤◌, ℕ, Bool, true, is_some, option_to_list, List, [], ◌∷◌, ◌++◌, length, Some, slice_get, String, nat_lt}
use Rattle.std.specs.List.{AllZip, Contains, flat_map, list_all}
use Rattle.std.specs.declared.alloc.Global.{Global}
use Rattle.wit_model.specs.{Text.text_of, Meaning.Signature, Parts.is_resource, Uses.item_interface, Valid.IsValid}
use Rattle.wit_model.specs.{Tree.here, Lookup.interface_at, Lookup.interface_path, Lookup.type_at, Lookup.world_at, Meant.signature_of, Meant.type_meaning_at}
use Rattle.wit_model.specs.declared.model.{Resolve.Resolve, TypeDef.TypeDef, TypeId.TypeId}
use Rattle.wit_model.specs.declared.model.{World.World, WorldKey.WorldKey, WorldItem.WorldItem, Function.Function, Interface.Interface, InterfaceId.InterfaceId}
use Rattle.comp_bytes.specs.Raw.{Alias, Declaration, Declarations, ExternName}
use Rattle.comp_bytes.specs.declared.forms.ComponentTypeRef.{ComponentTypeRef}
use Rattle.comp_meaning.specs.Follow.{Direction, import_, export_, Instance, Key, Scope, Seen, Shown, Slot, View, component_scope, component_step, component_steps, find_type, function_in, in_scope, instance_types, instance_view, interface_of, text_of_key, named_type, new_scope, see}
use Rattle.encode_shown.specs.Views.{ShowsInterface, ShowsItem, ShowsWorld, home_of, instance_key, instances_of, name_slot}
use Rattle.encode_names.specs.{WorldNames.name_of_item, Rebuilt.others_seen, Rebuilt.types_seen}
use Rattle.wit_model.specs.Tree as tree
use Rattle.wit_model.specs.declared.model.WorldItem.TheVariants as item
use Rattle.wit_model.specs.declared.model.TypeOwner.TheVariants as owner
use Rattle.comp_bytes.specs.declared.forms.ComponentTypeRef.TheVariants as refs

-- ---- imports and exports so far

-- an import or an export of a world, under its key
abbrev pub Entry : Type 0
Entry = WorldKey × WorldItem

-- imports, and exports
abbrev pub Entries : Type 0
Entries = List Entry × List Entry

abbrev pub with_entry : Direction → Entries → Entry → Entries
with_entry import_ done e = (done.0 ++ e ∷ [], done.1)
with_entry export_ done e = (done.0, done.1 ++ e ∷ [])

-- imports come before exports
abbrev pub IsTurnOf : Direction → Entries → Type 0
IsTurnOf import_ done = done.1 ≡ []
IsTurnOf export_ done = Unit {0}

abbrev pub declared_towards : Direction → ExternName → ComponentTypeRef → Declaration
declared_towards import_ name described = Declaration.imported name described
declared_towards export_ name described = Declaration.exported name described

-- The scope shows these imports and exports in order, and has the instances of the imports and then those of the exports. Each of its
-- instance types has been used by one of them.
pub record ShowsEntries (r : Resolve) (done : Entries) (scope : Scope) : Type 0 where
  pub imports : AllZip (ShowsItem r) done.0 scope.imports
  pub exports : AllZip (ShowsItem r) done.1 scope.exports
  pub instances : scope.instances ≡ flat_map (λ s. instances_of s.shown) (scope.imports ++ scope.exports)
  pub used : length scope.used ≡ instance_types scope.slots
  pub in_range : list_all (λ n. nat_lt n (length scope.slots)) scope.used ≡ true

-- the entry is an import or an export of a world
pub record IsEntryOf (r : Resolve) (e : Entry) : Type 0 where
  pub number : ℕ
  pub world : World
  pub there : world_at r number ≡ Some world
  pub listed : Contains (world.imports.entries ++ world.exports.entries) e

-- the numbers of the interfaces among imports or exports, in order
abbrev pub interfaces_among : List Entry → List ℕ
interfaces_among es = flat_map (λ e. option_to_list (item_interface e.1)) es

-- an instance of the interface of this number: with its path, where it has one, and what shows it
pub record StandsAs (r : Resolve) (i : ℕ) (instance : Instance) : Type 0 where
  pub interface : instance.interface ≡ interface_path r i
  pub shows : ShowsInterface r i instance.view

-- ---- one item more

abbrev pub seen_function : ExternName → Signature → Seen
seen_function name f = record { key = name.text; shown = Shown.function f; external_id = name.external_id }

abbrev pub seen_type : ExternName → tree.TypeDeclaration → Seen
seen_type name d = record { key = name.text; shown = Shown.declares d; external_id = name.external_id }

abbrev pub seen_instance : ExternName → Key → View → Seen
seen_instance name k view = record { key = text_of_key k; shown = Shown.instance k view; external_id = name.external_id }

-- a scope in which the instance type of this index has been used
abbrev pub with_instance : Key → View → ℕ → Scope → Scope
with_instance k view n scope = record scope {
  instances = scope.instances ++ record { interface = interface_of k; view = view } ∷ [];
  used =
      scope.used ++ n ∷ [];
}

-- One declaration leads from a scope to the next, which shows these entries.
pub record StepsTo (r : Resolve) (done : Entries) (scope next : Scope) (d : Declaration) : Type 0 where
  pub step : component_step scope d ≡ Some next
  pub shows : ShowsEntries r done next

-- ---- laws

-- Nothing has been shown in a scope in which nothing has been declared.
abbrev pub NothingIsShown : Type 0
NothingIsShown = (r : Resolve) → ShowsEntries r ([], []) new_scope

-- A slot more that is no instance type (a definition, an alias) leaves what is shown.
abbrev pub SlotsLeaveEntries : Type 0
SlotsLeaveEntries = (r : Resolve) (done : Entries) (scope : Scope) (x : Slot) → instance_types (x ∷ []) ≡ 0 → ShowsEntries r done scope
    → ShowsEntries r done (in_scope x scope)

-- A function of the world that is imported or exported under its name, by an index that stands for its signature, is shown.
abbrev pub FunctionsAreShown : Type 0
FunctionsAreShown = (r : Resolve) (canonical : Bool) (direction : Direction) (done : Entries) (scope : Scope) (k : WorldKey) (f : Function) (n : ℕ) → IsValid r
    → IsEntryOf r (k, item.Function f)
    → ShowsEntries r done scope → function_in (slice_get scope.slots n) ≡ Some (signature_of r f)
    → StepsTo r (with_entry direction done (k, item.Function f)) scope
    (see direction (seen_function (name_of_item r canonical (k, item.Function f)) (signature_of r f)) scope)
    (declared_towards direction (name_of_item r canonical (k, item.Function f)) (refs.Func n))

-- A type of the world that is imported under its name, as what it declares, is shown, and takes a slot.
abbrev pub TypesAreShown : Type 0
TypesAreShown = (r : Resolve) (canonical : Bool) (done : Entries) (scope : Scope) (k : WorldKey) (id : TypeId) (described : ComponentTypeRef) (x : Slot)
    → IsValid r → IsEntryOf r (k, item.Type_ id)
    → ShowsEntries r done scope → named_type scope.slots here (name_of_item r canonical (k, item.Type_ id)).text described ≡ Some
    ((type_meaning_at r id.0).declaration, x)
    → StepsTo r (with_entry import_ done (k, item.Type_ id)) scope
    (see import_ (seen_type (name_of_item r canonical (k, item.Type_ id)) (type_meaning_at r id.0).declaration) (in_scope x scope))
    (Declaration.imported (name_of_item r canonical (k, item.Type_ id)) described)

-- An instance type that shows an interface of the world, declared just before it is imported or exported under its name, is shown.
abbrev pub InterfacesAreShown : Type 0
InterfacesAreShown = (r : Resolve) (canonical : Bool) (direction : Direction) (done : Entries) (scope : Scope) (e : Entry) (i : ℕ) (ds : List Declaration)
    (view : View) → IsValid r → IsEntryOf r e
    → item_interface e.1 ≡ Some i → ShowsEntries r done scope → IsTurnOf direction done → instance_view (home_of r i) scope.slots ds ≡ Some view
    → ShowsInterface r i view
    → StepsTo r (with_entry direction done e) (in_scope (Slot.instance ds (length scope.slots)) scope)
    (see direction (seen_instance (name_of_item r canonical e) (instance_key e.0 (interface_path r i)) view)
    (with_instance (instance_key e.0 (interface_path r i)) view (length scope.slots) (in_scope (Slot.instance ds (length scope.slots)) scope)))
    (declared_towards direction (name_of_item r canonical e) (refs.Instance (length scope.slots)))

-- So the instances are those of the interfaces among the imports, and then of those among the exports.
abbrev pub InstancesStand : Type 0
InstancesStand = (r : Resolve) (done : Entries) (scope : Scope) → IsValid r → ((e : Entry) → Contains (done.0 ++ done.1) e → IsEntryOf r e)
    → ShowsEntries r done scope
    → AllZip (StandsAs r) (interfaces_among (done.0 ++ done.1)) scope.instances

-- An alias of a named type of an interface, by an instance of it, takes the slot of the type's name, and leaves what is shown.
abbrev pub AliasesAreNames : Type 0
AliasesAreNames = (r : Resolve) (done : Entries) (scope : Scope) (m : ℕ) (instance : Instance) (i : InterfaceId) (interface : Interface) (n : ℕ) (def : TypeDef)
    (name : String Global) → IsValid r
    → interface_at r i.0 ≡ Some interface → is_some (interface_path r i.0) ≡ true → type_at r n ≡ Some def → def.name ≡ Some name
    → def.owner ≡ owner.Interface i
    → ShowsEntries r done scope → slice_get scope.instances m ≡ Some instance → StandsAs r i.0 instance
    → StepsTo r done scope (in_scope (name_slot (is_resource r n) (home_of r i.0) (text_of name)) scope)
    (Declaration.alias_of (Alias.of_export m (text_of name)))

-- Where a scope has more slots, none of them an instance type, and has imported more types, and nothing else has changed but these, it shows
-- these types too.
pub record AddsTypes (scope next : Scope) (types : List Seen) : Type 0 where
  pub more_types : types_seen next.imports ≡ types_seen scope.imports ++ types
  pub others_stay : others_seen 0 next.imports ≡ others_seen 0 scope.imports
  pub exports_stay : next.exports ≡ scope.exports
  pub instances_stay : next.instances ≡ scope.instances
  pub used_stay : next.used ≡ scope.used
  pub same_instance_types : instance_types next.slots ≡ instance_types scope.slots
  pub more_slots : length scope.slots ≤ length next.slots

abbrev pub EntriesAreRebuilt : Type 0
EntriesAreRebuilt = (r : Resolve) (done : Entries) (scope next : Scope) (more : List Entry) (types : List Seen) → ShowsEntries r done scope
    → AddsTypes scope next types → AllZip (ShowsItem r) more types
    → ShowsEntries r (done.0 ++ more, done.1) next

-- When all imports and exports are shown, the component type shows the world.
abbrev pub WorldsAreShown : Type 0
WorldsAreShown = (r : Resolve) (w : World) (ds : Declarations) (scope : Scope) → ShowsEntries r (w.imports.entries, w.exports.entries) scope
    → component_steps new_scope ds ≡ Some scope
    → (component_scope ds ≡ Some scope) × ShowsWorld r w scope

-- A view that shows an interface has each named type of the interface under its name, in the slot of that name.
abbrev pub TypesAreFound : Type 0
TypesAreFound = (r : Resolve) (i : InterfaceId) (interface : Interface) (n : ℕ) (def : TypeDef) (name : String Global) (view : View) → IsValid r
    → interface_at r i.0 ≡ Some interface
    → type_at r n ≡ Some def → def.name ≡ Some name → def.owner ≡ owner.Interface i → ShowsInterface r i.0 view
    → find_type (text_of name) view.types ≡ Some (name_slot (is_resource r n) (home_of r i.0) (text_of name))
