-- Types with every name opened, down to resources (WIT.md, "Types"; Semantic Versioning 2.0.0).
-- An opened tree is as large as all the ways through the types, so it is a value of the mathematics alone: no code makes one.
use Rattle.std.specs.Prelude.{ℕ, Bool, true, false, ◌==◌, if◌then◌else◌, List, [], ◌∷◌, ◌++◌, map, flat_map, Option, Some, None, option_map, unwrap_or}
use Rattle.std.specs.Option.{option_map_or}
use Rattle.wit_model.specs.declared.model.{Resolve.Resolve, World.World, TypeDef.TypeDef, TypeOwner.TypeOwner}
use Rattle.wit_model.specs.declared.model.{PackageName.PackageName, WorldKey.WorldKey, WorldItem.WorldItem, TypeDefKind.TypeDefKind, «Type».«Type» as ValueType}
use Rattle.wit_model.specs.{Text.Text, Text.text_of, Paths.full_name}
use Rattle.wit_model.specs.{Names.PackageIdentity, Names.path_in, Parts.member_types, Types.grow, Types.tree_of, Types.declared_by, Types.tree_of_declaration}
use Rattle.wit_model.specs.Tree.{Tree, Place, of_interface, here, named, Form, record_of, variant_of, list_of, fixed_list_of, option_of, own_of, borrow_of, map_of, tuple_of, flags_of, enum_of, result_of, future_of, stream_of}
use Rattle.wit_model.specs.declared.model.WorldKey.TheVariants as key
use Rattle.wit_model.specs.declared.model.WorldItem.TheVariants as item
use Rattle.wit_model.specs.declared.model.TypeDefKind.TheVariants as kind
use Rattle.wit_model.specs.declared.model.TypeOwner.TheVariants as owner
use Rattle.wit_model.specs.declared.model.Handle.TheVariants as handle
use Rattle.wit_model.specs.declared.model.«Type».TheVariants as ty

-- ---- names without version

-- the package's name without its version
abbrev pub bare_identity : PackageName → PackageIdentity
bare_identity name = record { namespace = text_of name.namespace; name = text_of name.name; version = None }

-- the path of an interface without its version, and none where it is inline
abbrev pub bare_path : Resolve → ℕ → Option Text
bare_path r n = option_map (λ e. path_in (bare_identity e.0) (text_of e.1)) (full_name r n)

-- ---- the label of an inline interface

-- whether an item is the interface of this number
abbrev pub is_item_of : ℕ → WorldItem → Bool
is_item_of n (item.Interface id stability docs external_id) = id.0 == n
is_item_of n (item.Function f) = false
is_item_of n (item.Type_ id) = false

-- the label that a key is; a path has none
abbrev pub label_of_key : WorldKey → Text
label_of_key (key.Name name) = text_of name
label_of_key (key.Interface id) = []

-- the label of the first item that is the interface. In a valid `Resolve` an inline interface is the item of exactly one key, a label
abbrev pub label_among : ℕ → List (WorldKey × WorldItem) → Option Text
label_among n [] = None
label_among n (e ∷ es) = if is_item_of n e.1 then Some (label_of_key e.0) else label_among n es

-- the imports and the exports of a world
abbrev pub entries_of_world : World → List (WorldKey × WorldItem)
entries_of_world w = w.imports.entries ++ w.exports.entries

-- the label of an inline interface, from the worlds of the `Resolve`
abbrev pub inline_label : Resolve → ℕ → Text
inline_label r n = unwrap_or (label_among n (flat_map entries_of_world r.worlds.items)) []

-- ---- interfaces and keys

-- what an interface is called: its path without version, or its label where it is inline
abbrev pub interface_name : Resolve → ℕ → Text
interface_name r n = unwrap_or (bare_path r n) (inline_label r n)

-- The key of an import or an export, without version: a label, or what the interface is called.
-- In a valid `Resolve` the interface of a key has a path.
abbrev pub bare_key : Resolve → WorldKey → Text
bare_key r (key.Name name) = text_of name
bare_key r (key.Interface id) = interface_name r id.0

-- Where a resource is declared: in an interface, by its name, or in a world, which isn't named.
abbrev pub resource_place : Resolve → TypeOwner → Place
resource_place r (owner.Interface id) = of_interface (interface_name r id.0)
resource_place r (owner.World id) = here
resource_place r owner.None = here

-- ---- opened trees

-- A resource as a leaf. In an opened tree `named` stands for a resource alone.
abbrev pub resource_leaf : Resolve → TypeDef → Tree
resource_leaf r def = named (resource_place r def.owner) (option_map_or text_of def.name [])

-- The opened tree of a definition, from those of earlier ones. An alias is what it names.
abbrev pub opened_kind : Tree → List Tree → TypeDefKind → Tree
opened_kind leaf trees kind.Resource = leaf
opened_kind leaf trees k = tree_of_declaration (declared_by trees k)

-- the opened tree of a definition; a resource is a leaf by its place and name
abbrev pub opened_definition : Resolve → List Tree → TypeDef → Tree
opened_definition r trees def = opened_kind (resource_leaf r def) trees def.kind

-- the opened tree of each type number, in order
unfoldable pub opened_of : Resolve → List Tree
opened_of r = grow (opened_definition r) [] r.types.items

-- the opened tree of a type
abbrev pub opened_tree : Resolve → ValueType → Tree
opened_tree r t = tree_of (opened_of r) t

-- ---- kinds

-- the types at the places of a kind, in order
abbrev pub places_of : TypeDefKind → List ValueType
places_of (kind.Handle (handle.Own id)) = ty.Id id ∷ []
places_of (kind.Handle (handle.Borrow id)) = ty.Id id ∷ []
places_of k = member_types k

abbrev pub is_there : Option ValueType → Bool
is_there None = false
is_there (Some t) = true

-- what a kind is beside the types in it; none for a resource and an alias
abbrev pub form_of : TypeDefKind → Option Form
form_of (kind.Record record_) = Some (record_of (map (λ f. text_of f.name) record_.fields.items))
form_of (kind.Variant variant) = Some (variant_of (map (λ c. (text_of c.name, is_there c.ty)) variant.cases.items))
form_of (kind.Flags flags) = Some (flags_of (map (λ f. text_of f.name) flags.flags.items))
form_of (kind.Enum enum) = Some (enum_of (map (λ c. text_of c.name) enum.cases.items))
form_of (kind.Tuple tuple) = Some tuple_of
form_of (kind.Option t) = Some option_of
form_of (kind.Result result) = Some (result_of (is_there result.ok) (is_there result.err))
form_of (kind.List t) = Some list_of
form_of (kind.Map k v) = Some map_of
form_of (kind.FixedLengthList t n) = Some (fixed_list_of n)
form_of (kind.Future t) = Some (future_of (is_there t))
form_of (kind.Stream t) = Some (stream_of (is_there t))
form_of (kind.Handle (handle.Own id)) = Some own_of
form_of (kind.Handle (handle.Borrow id)) = Some borrow_of
form_of kind.Resource = None
form_of (kind.Type_ t) = None
