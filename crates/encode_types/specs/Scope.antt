-- The surroundings of a scope, and what may be exported and imported there (Component Model Binary.md, "Index Spaces" and "Import and Export Definitions").
use Rattle.std.specs.Prelude.{ℕ, ◌≡◌, Bool, true, List, [], Option, Some, None, String}
use Rattle.std.specs.List.{Contains}
use Rattle.std.specs.declared.alloc.Global.{Global}
use Rattle.wit_model.specs.{Text.Text, Tree.Tree, Tree.Place, Tree.type_, Tree.resource, Meaning.TypeMeaning, Meaning.FunctionMeaning, Lookup.type_at}
use Rattle.wit_model.specs.declared.model.{Resolve.Resolve, TypeDef.TypeDef, InterfaceId.InterfaceId}
use Rattle.comp_bytes.specs.Raw.{ExternName, Declarations}
use Rattle.comp_meaning.specs.Follow.{Seen, Instance}
use Rattle.encode_types.specs.{Resources.Names, Resources.is_resource_declaration, Slots.Pairs, Slots.tree}
use Rattle.wit_model.specs.declared.model.TypeOwner.TheVariants as owner

-- What else the surroundings of a scope hold that defining, exporting and importing types leaves as it is: of the component type of a world,
-- all that has been imported and exported beside its types.
pub record Others : Type 0 where
  -- the world, by its number, if the scope is that of one between two of its items
  pub world : Option ℕ
  -- the interfaces that are listed with an instance, each by its number, and how many instances there are
  pub listed : List (ℕ × ℕ)
  pub instance_count : ℕ
  -- what has been imported that is no type, each with how many types stand before it, and what has been exported
  pub imports : List (ℕ × Seen)
  pub exports : List Seen
  pub instances : List Instance
  -- how many instance types there are, and which of them have been used
  pub instance_types : ℕ
  pub used : List ℕ
  -- each of them behind what has been declared before it
  pub declared : List (Declarations × Declarations)

-- what else stands around the scope of a table or of an instance type: nothing
abbrev pub no_others : Others
no_others = record { world = None; listed = []; instance_count = 0; imports = []; exports = []; instances = []; instance_types = 0; used = []; declared = [] }

-- Whose types are encoded, and where. None of it is changed by defining, exporting or importing types.
pub record Scope : Type 0 where
  pub packages : Resolve
  -- where the types stand that are declared there, and their declarations
  pub place : Place
  pub declarations : List (Text × TypeMeaning)
  -- the interface that this place is
  pub own_interface : Option InterfaceId
  -- the interfaces whose instance stands
  pub instances : List ℕ
  -- which names stand for resources
  pub resources : Names
  -- the functions that have been exported
  pub functions : List (Text × FunctionMeaning)
  -- whether what has been declared can be followed, and the slots of resources are those of the names above
  pub is_sound : Bool
  -- what else stands in the surroundings
  pub others : Others

-- the name under which a declaration is exported: its text with its external id, and no other attribute
abbrev pub exported_name : Text × TypeMeaning → ExternName
exported_name d = record { text = d.0; implements = None; version_suffix = None; external_id = d.1.external_id }

-- a declaration of the place: its name stands for a resource exactly where it declares one
pub record IsDeclared (scope : Scope) (d : Text × TypeMeaning) : Type 0 where
  pub there : Contains scope.declarations d
  pub alike : scope.resources scope.place d.0 ≡ is_resource_declaration scope.resources d.1.declaration
  pub sound : scope.is_sound ≡ true

-- the name declares a tree that slot i stands for
pub record DeclaresSlot (scope : Scope) (S : Pairs) (name : ExternName) (i : ℕ) : Type 0 where
  pub declaration : Text × TypeMeaning
  pub type_tree : Tree
  pub declared : IsDeclared scope declaration
  pub is_type : declaration.1.declaration ≡ type_ type_tree
  pub stands : S i (tree type_tree)
  pub named_ : name ≡ exported_name declaration

-- the name declares a resource
pub record DeclaresResource (scope : Scope) (name : ExternName) : Type 0 where
  pub declaration : Text × TypeMeaning
  pub declared : IsDeclared scope declaration
  pub is_resource : declaration.1.declaration ≡ resource
  pub named_ : name ≡ exported_name declaration

-- a named type of an interface whose instance stands
pub record IsImportable (scope : Scope) (i n : ℕ) : Type 0 where
  pub def : TypeDef
  pub name : String Global
  pub there : type_at scope.packages n ≡ Some def
  pub named_ : def.name ≡ Some name
  pub owned : def.owner ≡ owner.Interface (record { 0 = i })
  pub stands : Contains scope.instances i
