-- What is read of a package or of a world, in plain numbers and texts, before a `Resolve` is made of it. Packages, interfaces, worlds
-- and types stand under the numbers that they get in the `Resolve` (WIT.md, "Packages", "Interfaces", "Worlds" and "Types").
use Rattle.std.specs.Prelude.{ℕ, Bool, true, false, ◌-◌, nat_lt, if◌then◌else◌, List, [], ◌∷◌, ◌++◌, map, filter_map, flat_map, Option, Some, None, option_map, option_and_then, option_to_list, unwrap_or, slice_get}
use Rattle.std.specs.{Option.option_map_or, Map.lookup}
use Rattle.wit_model.specs.declared.model.{TypeOwner.TypeOwner, FunctionKind.FunctionKind}
use Rattle.wit_model.specs.{Text.Text, Text.text_eq, Types.grow, Types.tree_of_declaration, Uses.owner_interface}
use Rattle.wit_model.specs.{Names.PackageIdentity, Names.path_in, Lookup.place_of_path, Lookup.resource_of, Parts.met_by, Parts.numbered_from, Parts.same_owner}
use Rattle.wit_model.specs.Tree.{Form, Tree, Place, here, TypeDeclaration, type_, children, named}
use Rattle.plan_meaning.specs.Shapes.{part_tree}
use Rattle.wit_model.specs.declared.model.TypeOwner.TheVariants as owner
use Rattle.wit_model.specs.Tree as tree

-- ---- the plan

-- What a type is: a resource, another name for a part, or a form over parts. A part is a primitive, by its number, or the number of a type
-- behind those of the primitives, as in a table of shapes.
pub data PlannedKind : Type 0 where
  resource : PlannedKind
  alias : ℕ → PlannedKind
  formed : Form → List ℕ → PlannedKind

-- a type, with a name and an owner where it is declared
pub record PlannedType : Type 0 where
  pub name : Option Text
  pub owner : TypeOwner
  pub kind : PlannedKind
  pub external_id : Option Text

pub record PlannedFunction : Type 0 where
  pub name : Text
  pub kind : FunctionKind
  pub params : List (Text × ℕ)
  pub result : Option ℕ
  pub external_id : Option Text

-- an interface, inline where it has no name: the numbers of its types and its functions, by name
pub record PlannedInterface : Type 0 where
  pub name : Option Text
  pub package_ : Option ℕ
  pub types : List (Text × ℕ)
  pub functions : List (Text × PlannedFunction)

-- the label, or the interface by whose path, an import or an export stands
pub data PlannedKey : Type 0 where
  label : Text → PlannedKey
  path_of : ℕ → PlannedKey

-- an interface with the external id of the import or export, a function, or a type
pub data PlannedItem : Type 0 where
  interface : ℕ → Option Text → PlannedItem
  function : PlannedFunction → PlannedItem
  declares : ℕ → PlannedItem

pub record PlannedWorld : Type 0 where
  pub name : Text
  pub package_ : Option ℕ
  pub imports : List (PlannedKey × PlannedItem)
  pub exports : List (PlannedKey × PlannedItem)

-- a package: the numbers of its interfaces and of its worlds, by name
pub record PlannedPackage : Type 0 where
  pub identity : PackageIdentity
  pub interfaces : List (Text × ℕ)
  pub worlds : List (Text × ℕ)

-- all that is read, and the number of the package that it is read as, or whose world it is
pub record Plan : Type 0 where
  pub packages : List PlannedPackage
  pub interfaces : List PlannedInterface
  pub worlds : List PlannedWorld
  pub types : List PlannedType
  pub main : ℕ

-- ---- by number and by name

abbrev pub package_in : Plan → ℕ → Option PlannedPackage
package_in p n = slice_get p.packages n

abbrev pub interface_in : Plan → ℕ → Option PlannedInterface
interface_in p n = slice_get p.interfaces n

abbrev pub world_in : Plan → ℕ → Option PlannedWorld
world_in p n = slice_get p.worlds n

abbrev pub type_in : Plan → ℕ → Option PlannedType
type_in p n = slice_get p.types n

-- the number that stands under a name
abbrev pub number_under : Text → List (Text × ℕ) → Option ℕ
number_under name es = lookup (text_eq name) es

abbrev pub numbers_of : List (Text × ℕ) → List ℕ
numbers_of es = map (λ e. e.1) es

-- the path of an interface that has a name
abbrev pub path_of_planned : Plan → PlannedInterface → Option Text
path_of_planned p i = option_and_then (λ name. option_and_then (λ q. option_map (λ k. path_in k.identity name) (package_in p q)) i.package_) i.name

abbrev pub path_at : Plan → ℕ → Option Text
path_at p n = option_and_then (path_of_planned p) (interface_in p n)

-- where the types of an owner are declared
abbrev pub place_in : Plan → TypeOwner → Place
place_in p (owner.Interface id) = place_of_path (path_at p id.0)
place_in p (owner.World id) = here
place_in p owner.None = here

-- ---- parts

-- the number of a part that is no primitive
abbrev pub part_number : ℕ → Option ℕ
part_number k = if nat_lt k 14 then None else Some (k - 14)

abbrev pub kind_parts : PlannedKind → List ℕ
kind_parts resource = []
kind_parts (alias k) = k ∷ []
kind_parts (formed form ks) = ks

-- the type numbers that a kind refers to
abbrev pub kind_numbers : PlannedKind → List ℕ
kind_numbers k = filter_map part_number (kind_parts k)

abbrev pub function_parts : PlannedFunction → List ℕ
function_parts f = map (λ x. x.1) f.params ++ option_to_list f.result

-- those that a function refers to, with the resource that it belongs to
abbrev pub function_numbers : PlannedFunction → List ℕ
function_numbers f = filter_map part_number (function_parts f) ++ option_to_list (resource_of f.kind)

-- the named types met at each number: itself where it has a name, and else those met at its parts
abbrev pub met_at : List (List ℕ) → ℕ × PlannedType → List ℕ
met_at table e = option_map_or (λ name. e.0 ∷ []) e.1.name (flat_map (met_by table) (kind_numbers e.1.kind))

unfoldable pub met_in : Plan → List (List ℕ)
met_in p = grow met_at [] (numbered_from 0 p.types)

-- the named types that numbers use
abbrev pub used_by_numbers : Plan → List ℕ → List ℕ
used_by_numbers p ns = flat_map (met_by (met_in p)) ns

-- whether the type of this number has this owner
abbrev pub has_owner : Plan → TypeOwner → ℕ → Bool
has_owner p o n = option_map_or (λ t. same_owner t.owner o) (type_in p n) false

-- whether a number is a resource, or a chain of aliases that ends in one, from the marks of smaller numbers
abbrev pub marked_at : List Bool → PlannedType → Bool
marked_at table t = of_kind t.kind
  where
    of_kind : PlannedKind → Bool
    of_kind resource = true
    of_kind (alias k) = option_map_or (λ m. unwrap_or (slice_get table m) false) (part_number k) false
    of_kind (formed form ks) = false

unfoldable pub resource_marks : Plan → List Bool
resource_marks p = grow marked_at [] p.types

abbrev pub is_resource : Plan → ℕ → Bool
is_resource p n = unwrap_or (slice_get (resource_marks p) n) false

-- ---- trees

-- what a kind declares
abbrev pub declared_as : List Tree → PlannedKind → TypeDeclaration
declared_as trees resource = tree.resource
declared_as trees (alias k) = type_ (part_tree trees k)
declared_as trees (formed form ks) = type_ (tree.node form (children (map (part_tree trees) ks)))

-- What a type stands for where it is used: a named type for its name in the place of its owner, and an unnamed one for its form.
abbrev pub tree_of_planned : Plan → List Tree → PlannedType → Tree
tree_of_planned p trees t = option_map_or (λ name. named (place_in p t.owner) name) t.name (tree_of_declaration (declared_as trees t.kind))

-- the tree of each type number, in order
unfoldable pub trees_in : Plan → List Tree
trees_in p = grow (tree_of_planned p) [] p.types

-- ---- uses of interfaces

abbrev pub alias_number : PlannedKind → Option ℕ
alias_number (alias k) = part_number k
alias_number _ = None

-- the interface whose type an alias of this number names
abbrev pub interface_used_by : Plan → ℕ → Option ℕ
interface_used_by p n = option_and_then (λ t. option_and_then (λ m. option_and_then (λ u. owner_interface u.owner) (type_in p m)) (alias_number t.kind))
    (type_in p n)

abbrev pub interfaces_used_by : Plan → PlannedInterface → List ℕ
interfaces_used_by p i = filter_map (interface_used_by p) (numbers_of i.types)

-- ---- worlds

abbrev pub item_interface : PlannedItem → Option ℕ
item_interface (interface n external_id) = Some n
item_interface _ = None

abbrev pub item_function : PlannedItem → Option PlannedFunction
item_function (function f) = Some f
item_function _ = None

abbrev pub item_type : PlannedItem → Option ℕ
item_type (declares n) = Some n
item_type _ = None

abbrev pub items_of : PlannedWorld → List PlannedItem
items_of w = map (λ e. e.1) w.imports ++ map (λ e. e.1) w.exports

abbrev pub world_types : PlannedWorld → List ℕ
world_types w = filter_map item_type (map (λ e. e.1) w.imports)
