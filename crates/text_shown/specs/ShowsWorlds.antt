-- What a `Resolve` shows of a world: what it states, and imports that what it states needs (WIT.md, "Item: world").
use Rattle.std.specs.Prelude.{◌≡◌, ◌∷◌, ◌++◌, ◌⊎◌, ℕ, List, [], Option, Some, None, slice_get, Contains, String}
use Rattle.std.specs.{List.flat_map, List.filter_map, HashMap.get_by_text}
use Rattle.std.specs.declared.alloc.Global.{Global}
use Rattle.wit_model.specs.Text.{Text, text_of}
use Rattle.wit_model.specs.declared.model.{Resolve.Resolve, Interface.Interface, InterfaceId.InterfaceId, TypeId.TypeId, WorldId.WorldId, World.World}
use Rattle.wit_model.specs.declared.model.{WorldItem.WorldItem, Function.Function, TypeOwner.TypeOwner, TypeDef.TypeDef, Docs.Docs}
use Rattle.wit_model.specs.declared.model.TypeOwner.TheVariants as owner
use Rattle.wit_model.specs.declared.model.WorldKey.TheVariants as key
use Rattle.wit_model.specs.declared.model.WorldItem.TheVariants as item
use Rattle.wit_model.specs.declared.model.Stability.TheVariants as stability
use Rattle.print_grammar.specs.Tree.{PathTree, Gates, Prefix, SignatureTree, MemberTree, MemberTree.UseMember, MemberTree.TypeMember, ExternTree, WorldMember}
use Rattle.print_grammar.specs.Tree.{ExternTree.Path, ExternTree.NamedFunction, ExternTree.NamedPath, ExternTree.NamedInterface}
use Rattle.print_grammar.specs.Tree.WorldMember.{WorldUse, WorldType, WorldImport, WorldExport}
use Rattle.print_items.specs.Shown.{shown_docs, shown_gates, shown_external_id, WorldEntry}
use Rattle.text_types.specs.{Each.EachIs, Functions.FreeStands, Plain.plain_signature}
use Rattle.text_types.specs.Made.{functions_of_declared, types_of, FunctionIs, FunctionTree, InSomeOrder, MembersAre, NameMap, TypeIs}
use Rattle.text_shown.specs.{Means.PathIs, Means.TargetIs}

-- a world: its documentation, its gates, its name, and what it states
pub record WorldTree : Type 0 where
  pub docs : List Text
  pub gates : Gates
  pub name : Text
  pub members : List WorldMember

-- ---- which types, functions, imports and exports members of a world are

-- the types that a member is: each name of a use is one by itself
abbrev pub world_types : WorldMember → List MemberTree
world_types (WorldUse prefix path names) = types_of (UseMember prefix path names)
world_types (WorldType prefix declared) = TypeMember prefix declared ∷ []
world_types (WorldImport prefix extern) = []
world_types (WorldExport prefix extern) = []

-- the function that is imported
abbrev pub extern_functions : Prefix → ExternTree → List FunctionTree
extern_functions prefix (NamedFunction name signature) = FunctionTree.Free prefix name signature ∷ []
extern_functions prefix (Path path) = []
extern_functions prefix (NamedPath name path) = []
extern_functions prefix (NamedInterface name members) = []

-- the functions that a member is: those of a resource, or an imported one
abbrev pub world_functions : WorldMember → List FunctionTree
world_functions (WorldUse prefix path names) = []
world_functions (WorldType prefix declared) = functions_of_declared declared
world_functions (WorldImport prefix extern) = extern_functions prefix extern
world_functions (WorldExport prefix extern) = []

-- an import or an export: what stands in front of it, and what it is
pub record Stated : Type 0 where
  pub prefix : Prefix
  pub extern : ExternTree

-- what is imported, but for functions
abbrev pub import_of : WorldMember → Option Stated
import_of (WorldImport prefix (NamedFunction name signature)) = None
import_of (WorldImport prefix (Path path)) = Some (record { prefix = prefix; extern = Path path })
import_of (WorldImport prefix (NamedPath name path)) = Some (record { prefix = prefix; extern = NamedPath name path })
import_of (WorldImport prefix (NamedInterface name members)) = Some (record { prefix = prefix; extern = NamedInterface name members })
import_of (WorldUse prefix path names) = None
import_of (WorldType prefix declared) = None
import_of (WorldExport prefix extern) = None

-- what is exported
abbrev pub export_of : WorldMember → Option Stated
export_of (WorldExport prefix extern) = Some (record { prefix = prefix; extern = extern })
export_of (WorldImport prefix extern) = None
export_of (WorldUse prefix path names) = None
export_of (WorldType prefix declared) = None

-- ---- what is made of them

-- The item is this interface, with what stands in front of it.
abbrev pub IsFrontOf : Prefix → InterfaceId → WorldItem → Type 0
IsFrontOf prefix id (item.Interface own gates docs external_id) =
    (own ≡ id) × (shown_gates gates ≡ prefix.gates) × (shown_docs docs ≡ prefix.docs) × (shown_external_id external_id ≡ prefix.external_id)
IsFrontOf prefix id (item.Function f) = ⊥
IsFrontOf prefix id (item.Type_ other) = ⊥

-- An entry of a world is what is stated: an interface under its path; or under a label an interface by its path, one that stands in the world, or a
-- function. What paths mean, and which interface stands in the world, is said by `PathOf` and `InlineOf`.
pub data ExternIs (defs : List TypeDef) (PathOf : PathTree → InterfaceId → Type 0) (InlineOf : List MemberTree → InterfaceId → Type 0) (prefix : Prefix)
    : ExternTree → WorldEntry → Type 0 where
  by_path : {path : PathTree} {id : InterfaceId} {what : WorldItem} → PathOf path id → IsFrontOf prefix id what
      → ExternIs defs PathOf InlineOf prefix (Path path) (key.Interface id, what)
  by_label : {name : Text} {path : PathTree} {label : String Global} {id : InterfaceId} {what : WorldItem} → text_of label ≡ name → PathOf path id
      → IsFrontOf prefix id what → ExternIs defs PathOf InlineOf prefix (NamedPath name path) (key.Name label, what)
  inline : {name : Text} {members : List MemberTree} {label : String Global} {id : InterfaceId} {what : WorldItem} → text_of label ≡ name
      → InlineOf members id → IsFrontOf prefix id what → ExternIs defs PathOf InlineOf prefix (NamedInterface name members) (key.Name label, what)
  a_function : {name : Text} {signature : SignatureTree} {label : String Global} {f : Function} → text_of label ≡ name
      → FreeStands defs prefix name (plain_signature signature) f
      → ExternIs defs PathOf InlineOf prefix (NamedFunction name signature) (key.Name label, item.Function f)

-- One of the entries is what is stated.
pub record StandsIn (Is : Stated → WorldEntry → Type 0) (entries : List WorldEntry) (stated : Stated) : Type 0 where
  pub entry : WorldEntry
  pub there : Contains entries entry
  pub is : Is stated entry

-- The entry is one of what is stated.
pub record IsOneOf (Is : Stated → WorldEntry → Type 0) (all : List Stated) (entry : WorldEntry) : Type 0 where
  pub one : Stated
  pub stated : Contains all one
  pub is : Is one entry

-- An import that nobody stated: an interface under its path, with nothing in front of it.
pub data IsBare : WorldEntry → Type 0 where
  bare : (id : InterfaceId) {docs : Docs} → docs.contents ≡ None → IsBare (key.Interface id, item.Interface id stability.Unknown docs None)

-- Interfaces are those that are stated, and others that nobody stated.
pub record InterfacesAre (Is : Stated → WorldEntry → Type 0) (all : List Stated) (entries : List WorldEntry) : Type 0 where
  pub stated : (one : Stated) → Contains all one → StandsIn Is entries one
  pub only : (entry : WorldEntry) → Contains entries entry → IsOneOf Is all entry ⊎ IsBare entry

-- Exports are those that are stated.
pub record ExportsAre (Is : Stated → WorldEntry → Type 0) (all : List Stated) (entries : List WorldEntry) : Type 0 where
  pub stated : (one : Stated) → Contains all one → StandsIn Is entries one
  pub only : (entry : WorldEntry) → Contains entries entry → IsOneOf Is all entry

-- The entry is the type of this name and number.
pub data IsTypeEntry : String Global × TypeId → WorldEntry → Type 0 where
  named : {name label : String Global} {id : TypeId} → text_of label ≡ text_of name → IsTypeEntry (name, id) (key.Name label, item.Type_ id)

-- The entry is the function of this tree.
pub data IsFunctionEntry (defs : List TypeDef) (types : Text → Option TypeId) (tree : FunctionTree) : WorldEntry → Type 0 where
  under : {label : String Global} {f : Function} → FunctionIs defs types tree (label, f) → IsFunctionEntry defs types tree (key.Name label, item.Function f)

-- Imports are interfaces; then the types that are stated, in some order; then the functions, in their order.
pub record ImportsAre (defs : List TypeDef) (Target : PathTree → Text → TypeId → Type 0) (Is : Stated → WorldEntry → Type 0) (owner : TypeOwner)
    (members : List WorldMember) (entries : List WorldEntry) : Type 0 where
  pub interfaces : List WorldEntry
  pub own : NameMap TypeId
  pub types : List WorldEntry
  pub functions : List WorldEntry
  pub are : entries ≡ interfaces ++ types ++ functions
  pub has_interfaces : InterfacesAre Is (filter_map import_of members) interfaces
  pub has_types : InSomeOrder (TypeIs defs Target owner) (flat_map world_types members) own.entries
  pub types_are : EachIs IsTypeEntry own.entries types
  pub has_functions : EachIs (IsFunctionEntry defs (get_by_text own)) (flat_map world_functions members) functions

-- ---- worlds of a `Resolve`

-- The interface of this number stands in a world of the package of this number: it has no name and no documentation of its own, and what the members say.
pub record IsInline (r : Resolve) (here : ℕ) (members : List MemberTree) (id : InterfaceId) : Type 0 where
  pub interface : Interface
  pub there : slice_get r.interfaces.items id.0 ≡ Some interface
  pub unnamed : interface.name ≡ None
  pub home : interface.«package» ≡ Some (record { 0 = here })
  pub gates : interface.stability ≡ stability.Unknown
  pub docs : interface.docs.contents ≡ None
  pub has : MembersAre r.types.items (TargetIs r here) (owner.Interface id) members interface.types interface.functions

-- An entry of a world of the package of this number is what is stated.
abbrev pub StatedIs : Resolve → ℕ → Stated → WorldEntry → Type 0
StatedIs r here stated entry = ExternIs r.types.items (PathIs r here) (IsInline r here) stated.prefix stated.extern entry

-- The entry is a world of the package of this number, as the tree has it.
pub record ShowsWorld (r : Resolve) (here : ℕ) (tree : WorldTree) (entry : String Global × WorldId) : Type 0 where
  pub world : World
  pub listed : text_of entry.0 ≡ tree.name
  pub there : slice_get r.worlds.items entry.1.0 ≡ Some world
  pub named : text_of world.name ≡ tree.name
  pub home : world.«package» ≡ Some (record { 0 = here })
  pub gates : shown_gates world.stability ≡ tree.gates
  pub docs : shown_docs world.docs ≡ tree.docs
  pub imports : ImportsAre r.types.items (TargetIs r here) (StatedIs r here) (owner.World entry.1) tree.members world.imports.entries
  pub exports : ExportsAre (StatedIs r here) (filter_map export_of tree.members) world.exports.entries
