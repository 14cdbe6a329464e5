-- What a `Resolve` shows of WIT texts: their packages, in the order in which they come first, and in each its interfaces and worlds, in the order of the
-- texts (WIT.md, "Package declaration", "Item: interface", "Item: use").
use Rattle.std.specs.Prelude.{◌≡◌, ◌∷◌, ◌&&◌, ℕ, Bool, List, [], map, Option, Some, None, slice_get, option_map, if◌then◌else◌, String}
use Rattle.std.specs.{List.flat_map, List.filter_map, Option.option_eq}
use Rattle.std.specs.declared.alloc.Global.{Global}
use Rattle.wit_model.specs.Text.{Text, text_eq, text_of}
use Rattle.wit_model.specs.declared.model.{Resolve.Resolve, Package.Package, Interface.Interface, InterfaceId.InterfaceId}
use Rattle.wit_model.specs.declared.model.{PackageId.PackageId}
use Rattle.wit_model.specs.declared.model.TypeOwner.TheVariants as owner
use Rattle.print_grammar.specs.Tree.{Gates, MemberTree, ItemTree, ItemTree.InterfaceItem, ItemTree.WorldItem, PackageHead, PackageTree, FileTree}
use Rattle.print_items.specs.Shown.{shown_docs, shown_gates, shown_head}
use Rattle.text_names.specs.Contents.{AreFirsts}
use Rattle.text_types.specs.{Each.EachIs, Made.MembersAre}
use Rattle.text_shown.specs.Means.{IsUsed}
use Rattle.text_shown.specs.ShowsWorlds.{ShowsWorld, WorldTree}
use Rattle.text_plain.specs.Moved.{same_head}
use Rattle.text_plain.specs.Scopes.{bare_head}

-- ---- which items texts declare

-- the packages of texts, in their order
abbrev pub packages_of : List FileTree → List PackageTree
packages_of files = flat_map (λ f. f.main ∷ f.nested) files

-- the items of the package of this name, in whichever texts they stand
abbrev pub items_of : List FileTree → PackageHead → List ItemTree
items_of files head = flat_map (λ p. if same_head p.head head then p.items else []) (packages_of files)

-- an interface: its documentation, its gates, its name, and what it has
pub record InterfaceTree : Type 0 where
  pub docs : List Text
  pub gates : Gates
  pub name : Text
  pub members : List MemberTree

-- the interface that an item is
abbrev pub interface_of : ItemTree → Option InterfaceTree
interface_of (InterfaceItem docs gates name members) = Some (record { docs = docs; gates = gates; name = name; members = members })
interface_of (WorldItem docs gates name members) = None

-- the world that an item is
abbrev pub world_of : ItemTree → Option WorldTree
world_of (InterfaceItem docs gates name members) = None
world_of (WorldItem docs gates name members) = Some (record { docs = docs; gates = gates; name = name; members = members })

-- ---- interfaces

-- The entry is an interface of the package of this number, as the tree has it.
pub record ShowsInterface (r : Resolve) (here : ℕ) (tree : InterfaceTree) (entry : String Global × InterfaceId) : Type 0 where
  pub interface : Interface
  pub listed : text_of entry.0 ≡ tree.name
  pub there : slice_get r.interfaces.items entry.1.0 ≡ Some interface
  pub named : option_map text_of interface.name ≡ Some tree.name
  pub home : interface.«package» ≡ Some (record { 0 = here })
  pub gates : shown_gates interface.stability ≡ tree.gates
  pub docs : shown_docs interface.docs ≡ tree.docs
  pub members : MembersAre r.types.items (IsUsed r here (owner.Interface entry.1)) (owner.Interface entry.1) tree.members interface.types interface.functions

-- ---- packages

-- The package has the interfaces and the worlds that texts declare under its name, in their order, and no others.
pub record ShowsPackage (r : Resolve) (files : List FileTree) (n : ℕ) (p : Package) : Type 0 where
  pub interfaces : EachIs (ShowsInterface r n) (filter_map interface_of (items_of files (shown_head p))) p.interfaces.entries
  pub worlds : EachIs (ShowsWorld r n) (filter_map world_of (items_of files (shown_head p))) p.worlds.entries

-- The packages are those of the texts, each once and without its documentation, and with each text goes the one that it begins with.
pub record ShowsFiles (files : List FileTree) (r : Resolve) (mains : List PackageId) : Type 0 where
  pub packages : AreFirsts (map (λ p. bare_head p.head) (packages_of files)) (map shown_head r.packages.items)
  pub mains_are : EachIs (λ file id. slice_get (map shown_head r.packages.items) id.0 ≡ Some (bare_head file.main.head)) files mains
  pub each : (n : ℕ) (p : Package) → slice_get r.packages.items n ≡ Some p → ShowsPackage r files n p
