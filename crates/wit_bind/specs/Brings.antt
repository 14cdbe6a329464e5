-- What a merge brings stands here as it stood there: with its documentation, its stability and its external ids, and with functions and types in their order.
use Rattle.std.specs.Prelude.{◌≡◌, ◌≤◌, ◌⊎◌, ℕ, true, false, is_none, if◌then◌else◌, List, [], ◌∷◌, length, map, filter_map, Option, Some, None, option_and_then, option_map, slice_get, unwrap_or}
use Rattle.std.specs.List.{Contains}
use Rattle.wit_model.specs.declared.model.{Function.Function, Interface.Interface, Package.Package, Resolve.Resolve, WorldItem.WorldItem, WorldKey.WorldKey, TypeDef.TypeDef, World.World}
use Rattle.wit_model.specs.Lookup.{identity_of, interface_at, key_text, path_of_interface, path_of_world, type_at, world_at}
use Rattle.wit_model.specs.Parts.{function_types, kind_numbers}
use Rattle.wit_model.specs.{Text.Text, Text.optional_text, Text.text_of, Types.declaration_of, Types.grow, Types.number_of, Types.number_tree}
use Rattle.bind_copy.specs.Copies.{member_docs}
use Rattle.bind_union.specs.Carried.{stability_view, StabilityView}
use Rattle.wit_bind.specs.declared.bindgen.Bindgen.{Bindgen}
use Rattle.wit_bind.specs.Comes.{is_new_interface, is_new_package, is_new_world, is_one_of, TypeComes, TypeIsGained}
use Rattle.wit_model.specs.declared.model.WorldItem.TheVariants as item

-- ---- what is said of things beside what they mean

-- What is said of a function, a type or an item by itself. The last is the documentation of a type's fields, cases or flags.
pub record Notes : Type 0 where
  pub docs : Option Text
  pub stability : StabilityView
  pub external_id : Option Text
  pub of_members : List (Option Text)

-- What is said of a thing, and of the types without a name that it is made of, down to names. A type with a name is a leaf: what is said of it stands under its
-- name.
pub data NotedTree : Type 0 where
  of_name : NotedTree
  noted : Notes → NotedTree → NotedTree
  no_parts : NotedTree
  part : NotedTree → NotedTree → NotedTree

-- the noted trees of these numbers, from a table
abbrev pub noted_parts : List NotedTree → List ℕ → NotedTree
noted_parts table [] = no_parts
noted_parts table (n ∷ ns) = part (unwrap_or (slice_get table n) of_name) (noted_parts table ns)

-- the noted tree of a type that is opened, from a table
abbrev pub noted_by : List NotedTree → TypeDef → NotedTree
noted_by table t = noted (record {
  docs = optional_text t.docs.contents;
  stability = stability_view t.stability;
  external_id = optional_text t.external_id;
  of_members = member_docs t.kind;
}) (noted_parts table (kind_numbers t.kind))

-- the noted tree of each type number, in order
unfoldable pub noted_of : Resolve → List NotedTree
noted_of r = grow (λ table t. if is_none t.name then noted_by table t else of_name) [] r.types.items

-- the noted tree of what is declared under this number
abbrev pub noted_number : Resolve → ℕ → Option NotedTree
noted_number r n = option_map (noted_by (noted_of r)) (type_at r n)

-- the noted tree of a function, over its parameters and its result
abbrev pub noted_function : Resolve → Function → NotedTree
noted_function r f = noted
    (record { docs = optional_text f.docs.contents; stability = stability_view f.stability; external_id = optional_text f.external_id; of_members = [] })
    (noted_parts (noted_of r) (filter_map number_of (function_types f)))

-- What is said of an interface, of its functions by their names and of its types by theirs, both in their order.
pub record InterfaceNotes : Type 0 where
  pub docs : Option Text
  pub stability : StabilityView
  pub functions : List (Text × NotedTree)
  pub types : List (Text × Option NotedTree)

-- what is said of an interface, its functions and its types
abbrev pub interface_notes : Resolve → Interface → InterfaceNotes
interface_notes r i = record {
  docs = optional_text i.docs.contents;
  stability = stability_view i.stability;
  functions = map (λ e. (text_of e.0, noted_function r e.1)) i.functions.entries;
  types = map (λ e. (text_of e.0, noted_number r e.1.0)) i.types.entries;
}

-- what is said of an interface where it is inline, and so comes with the item that shows it
abbrev pub inline_notes : Resolve → ℕ → Option InterfaceNotes
inline_notes r n = option_and_then (λ i. if is_none i.name then Some (interface_notes r i) else None) (interface_at r n)

-- what is said of an item of a world, and of the inline interface that it shows
abbrev pub item_notes : Resolve → WorldItem → Option NotedTree × Option InterfaceNotes
item_notes r (item.Interface id stability docs external_id) = (
  Some (noted (record { docs = optional_text docs.contents; stability = stability_view stability; external_id = optional_text external_id; of_members = [] })
      no_parts),
  inline_notes r id.0,
)
item_notes r (item.Function f) = (Some (noted_function r f), None)
item_notes r (item.Type_ id) = (noted_number r id.0, None)

-- what is said of an import or an export, under the label or the path of its key
abbrev pub entry_notes : Resolve → WorldKey × WorldItem → Text × (Option NotedTree × Option InterfaceNotes)
entry_notes r e = (key_text r e.0, item_notes r e.1)

-- What is said of a world, and of its imports and its exports in their order.
pub record WorldNotes : Type 0 where
  pub docs : Option Text
  pub stability : StabilityView
  pub imports : List (Text × (Option NotedTree × Option InterfaceNotes))
  pub exports : List (Text × (Option NotedTree × Option InterfaceNotes))

-- what is said of a world
abbrev pub world_notes : Resolve → World → WorldNotes
world_notes r w = record {
  docs = optional_text w.docs.contents;
  stability = stability_view w.stability;
  imports = map (entry_notes r) w.imports.entries;
  exports = map (entry_notes r) w.exports.entries;
}

-- ---- what is brought

-- the labels and paths of entries
abbrev pub key_texts : Resolve → List (WorldKey × WorldItem) → List Text
key_texts r es = map (λ e. key_text r e.0) es

-- Each entry under a label or path that isn't one of these has its own notes under it in the end.
abbrev pub BringsEntries : List Text → Resolve → List (WorldKey × WorldItem) → Resolve → List (WorldKey × WorldItem) → Type 0
BringsEntries here other olds new news =
    (e : WorldKey × WorldItem) → Contains olds e → is_one_of here (key_text other e.0) ≡ false → (x : WorldKey × WorldItem) × Contains news x
    × (entry_notes new x ≡ entry_notes other e)

-- The type of this number is one of the other's, with or without a name. It stands for the same tree and declares the same. The same is said of
-- it, and of the types without a name that it is made of.
pub record IsTypeOf (other new : Resolve) (number : ℕ) (t : TypeDef) : Type 0 where
  pub source : ℕ
  pub def : TypeDef
  pub found : type_at other source ≡ Some def
  pub tree : number_tree new number ≡ number_tree other source
  pub declares : declaration_of new t ≡ declaration_of other def
  pub notes : noted_by (noted_of new) t ≡ noted_by (noted_of other) def

-- Packages, interfaces and worlds of the other binding whose names or paths weren't here have theirs in the end, and so have imports and exports that the bound
-- world hadn't. Each new type is one of the other's that comes, or that the bound world gains.
pub record BringsItsOwn (own other new : Bindgen) : Type 0 where
  pub packages : (p : Package) → Contains other.resolve.packages.items p → is_new_package own.resolve p ≡ true
      → (q : Package) × Contains new.resolve.packages.items q × (identity_of q.name ≡ identity_of p.name)
      × (optional_text q.docs.contents ≡ optional_text p.docs.contents)
  pub interfaces : (i : Interface) (path : Text) → Contains other.resolve.interfaces.items i → path_of_interface other.resolve i ≡ Some path
      → is_new_interface own.resolve other.resolve i ≡ true
      → (j : Interface) × Contains new.resolve.interfaces.items j × (path_of_interface new.resolve j ≡ Some path)
      × (interface_notes new.resolve j ≡ interface_notes other.resolve i)
  pub worlds : (w : World) (path : Text) → Contains other.resolve.worlds.items w → path_of_world other.resolve w ≡ Some path
      → is_new_world own.resolve other.resolve w ≡ true
      → (v : World) × Contains new.resolve.worlds.items v × (path_of_world new.resolve v ≡ Some path)
      × (world_notes new.resolve v ≡ world_notes other.resolve w)
  pub bound : (w v x : World) → world_at own.resolve own.world.0 ≡ Some w → world_at other.resolve other.world.0 ≡ Some v
      → world_at new.resolve new.world.0 ≡ Some x
      → BringsEntries (key_texts own.resolve w.imports.entries) other.resolve v.imports.entries new.resolve x.imports.entries
      × BringsEntries (key_texts own.resolve w.exports.entries) other.resolve v.exports.entries new.resolve x.exports.entries
  pub types : (n : ℕ) (t : TypeDef) → length own.resolve.types.items ≤ n → type_at new.resolve n ≡ Some t → (x : IsTypeOf other.resolve new.resolve n t)
      × (TypeComes own.resolve other.resolve x.source ⊎ TypeIsGained own other x.source)
