-- What a world imports and exports, each part under its name without version, with every type opened (documentation of `semver_check`; WIT.md, "Worlds").
use Rattle.std.specs.Prelude.{Bool, ◌&&◌, if◌then◌else◌, List, [], ◌∷◌, ◌++◌, map, flat_map, Option, Some, None, String, option_map}
use Rattle.std.specs.Option.{option_map_or}
use Rattle.std.specs.declared.alloc.Global.{Global}
use Rattle.wit_model.specs.declared.model.{Resolve.Resolve, TypeId.TypeId, World.World}
use Rattle.wit_model.specs.declared.model.{Interface.Interface, WorldKey.WorldKey, WorldItem.WorldItem, Function.Function, «Type».«Type» as ValueType}
use Rattle.wit_model.specs.{Text.Text, Text.text_of, Text.text_eq, Lookup.interface_at, Lookup.is_async, Tree.Tree, Meaning.Signature}
use Rattle.compat_meaning.specs.Opened.{bare_key, opened_tree}
use Rattle.wit_model.specs.declared.model.WorldItem.TheVariants as item
use Rattle.wit_model.specs.declared.model.«Type».TheVariants as ty

-- ---- what stands where, by numbers

-- what stands under a name: an interface, a type or a function
pub data Thing : Type 0 where
  interface : Thing
  of_type : ValueType → Thing
  of_function : Function → Thing

-- The key without version, and the name in the interface. The item itself stands under the empty name.
abbrev pub FlatName : Type 0
FlatName = Text × Text

-- a type of an interface, under the interface's key and its own name
abbrev pub type_member : Text → String Global × TypeId → FlatName × Thing
type_member k e = ((k, text_of e.0), of_type (ty.Id e.1))

-- a function of an interface, under the interface's key and its own name
abbrev pub function_member : Text → String Global × Function → FlatName × Thing
function_member k e = ((k, text_of e.0), of_function e.1)

-- the types of an interface and then its functions, in order
abbrev pub members : Text → Interface → List (FlatName × Thing)
members k i = map (type_member k) i.types.entries ++ map (function_member k) i.functions.entries

-- an item, and what is in it
abbrev pub item_things : Resolve → Text → WorldItem → List (FlatName × Thing)
item_things r k (item.Interface id stability docs external_id) = ((k, []), interface) ∷ option_map_or (members k) (interface_at r id.0) []
item_things r k (item.Function f) = ((k, []), of_function f) ∷ []
item_things r k (item.Type_ id) = ((k, []), of_type (ty.Id id)) ∷ []

-- an import or an export under its key without version, and what is in it
abbrev pub entry_things : Resolve → WorldKey × WorldItem → List (FlatName × Thing)
entry_things r e = item_things r (bare_key r e.0) e.1

-- all things of a list of imports or exports, in order
abbrev pub things_of : Resolve → List (WorldKey × WorldItem) → List (FlatName × Thing)
things_of r es = flat_map (entry_things r) es

-- ---- look-ups

-- whether two names are the same, in both parts
abbrev pub same_name : FlatName → FlatName → Bool
same_name a b = text_eq a.0 b.0 && text_eq a.1 b.1

-- A finite map by its entries: what stands under a name. Where a name repeats the first counts
abbrev pub find_named : {X : Type 0} → FlatName → List (FlatName × X) → Option X
find_named name [] = None
find_named name (e ∷ es) = if same_name name e.0 then Some e.1 else find_named name es

-- ---- the same with types opened

-- What stands under a name, with types opened. The external id of a function plays no part.
pub data FlatShown : Type 0 where
  an_interface : FlatShown
  a_type : Tree → FlatShown
  a_function : Signature → FlatShown

-- a function's type, with types opened
abbrev pub opened_signature : Resolve → Function → Signature
opened_signature r f = record {
  is_async = is_async f.kind;
  params = map (λ p. (text_of p.name, opened_tree r p.ty)) f.params.items;
  result = option_map (opened_tree r) f.result;
}

-- what stands under a name, with types opened
abbrev pub shown : Resolve → Thing → FlatShown
shown r interface = an_interface
shown r (of_type t) = a_type (opened_tree r t)
shown r (of_function f) = a_function (opened_signature r f)

-- a list of such things, with types opened
abbrev pub all_shown : Resolve → List (FlatName × Thing) → List (FlatName × FlatShown)
all_shown r xs = map (λ e. (e.0, shown r e.1)) xs

-- The flat form of a list of imports or exports.
abbrev pub flat_form : Resolve → List (WorldKey × WorldItem) → List (FlatName × FlatShown)
flat_form r es = all_shown r (things_of r es)

-- what a world imports, part by part, under names without version
abbrev pub flat_imports : Resolve → World → List (FlatName × FlatShown)
flat_imports r w = flat_form r w.imports.entries

-- what a world exports, part by part, under names without version
abbrev pub flat_exports : Resolve → World → List (FlatName × FlatShown)
flat_exports r w = flat_form r w.exports.entries
