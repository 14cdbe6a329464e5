-- The component types of a package, each under its label, that show the package where their indexes are followed (Component Model WIT.md, "Package Format").
use Rattle.std.specs.Prelude.{◌≡◌, ℕ, zero, List, ◌++◌, Some, None, String}
use Rattle.std.specs.List.{AllZip}
use Rattle.std.specs.declared.alloc.Global.{Global}
use Rattle.wit_model.specs.{Text.Text, Text.text_of, Names.path_in, Lookup.world_at, Lookup.identity_of}
use Rattle.wit_model.specs.declared.model.{Resolve.Resolve, Package.Package, InterfaceId.InterfaceId, WorldId.WorldId, World.World}
use Rattle.comp_bytes.specs.Raw.{Declaration, Declarations, ExternName}
use Rattle.comp_meaning.specs.Follow.{View, Scope, component_scope}
use Rattle.encode_shown.specs.Views.{ShowsWorld, ShowsDependencies}
use Rattle.comp_bytes.specs.declared.forms.ComponentTypeRef.TheVariants as refs

-- the component type of an interface of the package
pub record IsInterfaceType (r : Resolve) (p : Package) (e : String Global × InterfaceId) (x : Text × Declarations) : Type 0 where
  pub label : x.0 ≡ text_of e.0
  pub scope : Scope
  pub follows : component_scope x.1 ≡ Some scope
  pub imports : List (Text × View)
  pub exported : View
  pub shows : ShowsDependencies r e.1.0 (path_in (identity_of p.name) (text_of e.0)) scope imports exported

-- a name without attributes
abbrev pub plain_name : Text → ExternName
plain_name text = record { text = text; implements = None; version_suffix = None; external_id = None }

-- the wrapper of a world: its component type, and the export of that under a path
abbrev pub wrapper : Text → Declarations → Declarations
wrapper path inner = Declarations.component inner (Declarations.declares (Declaration.exported (plain_name path) (refs.Component zero)) Declarations.no_more)

-- the wrapper of world n of the package, exported under a label
pub record IsWorldType (r : Resolve) (p : Package) (n : ℕ) (label : Text) (x : Text × Declarations) : Type 0 where
  pub world : World
  pub there : world_at r n ≡ Some world
  pub inner : Declarations
  pub is : x ≡ (label, wrapper (path_in (identity_of p.name) (text_of world.name)) inner)
  pub scope : Scope
  pub follows : component_scope inner ≡ Some scope
  pub shows : ShowsWorld r world scope

-- The component type is that of a world, which the package lists under this name.
abbrev pub IsListedWorldType : Resolve → Package → String Global × WorldId → Text × Declarations → Type 0
IsListedWorldType r p e x = IsWorldType r p e.1.0 (text_of e.0) x

-- the component types of the package's interfaces in order, and then those of its worlds
pub record ArePackageTypes (r : Resolve) (p : Package) (xs : List (Text × Declarations)) : Type 0 where
  pub interface_types : List (Text × Declarations)
  pub world_types : List (Text × Declarations)
  pub interfaces : AllZip (IsInterfaceType r p) p.interfaces.entries interface_types
  pub worlds : AllZip (IsListedWorldType r p) p.worlds.entries world_types
  pub are : xs ≡ interface_types ++ world_types
