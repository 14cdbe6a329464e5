-- What a plan means: nothing that it doesn't hold, and the interfaces of other packages by path.
use Rattle.std.specs.Prelude.{ℕ, if◌then◌else◌, List, [], map, filter_map, Option, None, option_map, option_and_then, unwrap_or}
use Rattle.std.specs.{Option.option_map_or, FinMap.from_entries}
use Rattle.wit_model.specs.{Text.Text, Lookup.is_async, Rules.is_id, Meant.no_type, Meant.no_interface, Meant.no_world}
use Rattle.wit_model.specs.Meaning.{Signature, FunctionMeaning, TypeMeaning, InterfaceMeaning, Item, Entry, WorldMeaning, PackageMeaning, WorldPackage}
use Rattle.plan_meaning.specs.Shapes.{part_tree}
use Rattle.plan_meaning.specs.Plan.{Plan, PlannedType, PlannedFunction, PlannedInterface, PlannedKey, PlannedItem, PlannedWorld, PlannedPackage, package_in, interface_in, world_in, type_in, path_of_planned, path_at, trees_in, declared_as}
use Rattle.plan_meaning.specs.Plan as plan

abbrev pub signature_of : Plan → PlannedFunction → Signature
signature_of p f = record {
  is_async = is_async f.kind;
  params = map (λ x. (x.0, part_tree (trees_in p) x.1)) f.params;
  result = option_map (part_tree (trees_in p)) f.result;
}

abbrev pub function_meaning : Plan → PlannedFunction → FunctionMeaning
function_meaning p f = record { signature = signature_of p f; external_id = f.external_id }

abbrev pub type_meaning : Plan → PlannedType → TypeMeaning
type_meaning p t = record { declaration = declared_as (trees_in p) t.kind; external_id = t.external_id }

abbrev pub type_meaning_in : Plan → ℕ → TypeMeaning
type_meaning_in p n = option_map_or (type_meaning p) (type_in p n) no_type

abbrev pub interface_meaning : Plan → PlannedInterface → InterfaceMeaning
interface_meaning p i = record {
  types = map (λ e. (e.0, type_meaning_in p e.1)) i.types;
  functions = from_entries (map (λ e. (e.0, function_meaning p e.1)) i.functions);
}

abbrev pub interface_meaning_in : Plan → ℕ → InterfaceMeaning
interface_meaning_in p n = option_map_or (interface_meaning p) (interface_in p n) no_interface

-- ---- worlds

abbrev pub item_meaning : Plan → PlannedItem → Item InterfaceMeaning
item_meaning p (plan.interface n external_id) = option_map_or Item.interface (path_at p n) (Item.inline (interface_meaning_in p n))
item_meaning p (plan.function f) = Item.function (signature_of p f)
item_meaning p (plan.declares n) = Item.declares (type_meaning_in p n).declaration

abbrev pub item_external_id : Plan → PlannedItem → Option Text
item_external_id p (plan.interface n external_id) = external_id
item_external_id p (plan.function f) = f.external_id
item_external_id p (plan.declares n) = (type_meaning_in p n).external_id

abbrev pub key_text : Plan → PlannedKey → Text
key_text p (plan.label t) = t
key_text p (plan.path_of n) = unwrap_or (path_at p n) []

abbrev pub entries_meaning : Plan → List (PlannedKey × PlannedItem) → List (Text × Entry InterfaceMeaning)
entries_meaning p es = map (λ e. (key_text p e.0, record { item = item_meaning p e.1; external_id = item_external_id p e.1 })) es

abbrev pub world_meaning : Plan → PlannedWorld → WorldMeaning
world_meaning p w = record { imports = entries_meaning p w.imports; exports = entries_meaning p w.exports }

abbrev pub world_meaning_in : Plan → ℕ → WorldMeaning
world_meaning_in p n = option_map_or (world_meaning p) (world_in p n) no_world

-- ---- packages

-- an interface of another package, under its path
abbrev pub foreign_entry : Plan → PlannedInterface → Option (Text × InterfaceMeaning)
foreign_entry p i = if is_id p.main i.package_ then None else option_map (λ path. (path, interface_meaning p i)) (path_of_planned p i)

abbrev pub package_meaning : Plan → PlannedPackage → PackageMeaning
package_meaning p k = record {
  identity = k.identity;
  interfaces = map (λ e. (e.0, interface_meaning_in p e.1)) k.interfaces;
  worlds = map (λ e. (e.0, world_meaning_in p e.1)) k.worlds;
  foreign = from_entries (filter_map (foreign_entry p) p.interfaces);
}

-- what a plan means as a package
unfoldable pub plan_meaning : Plan → Option PackageMeaning
plan_meaning p = option_map (package_meaning p) (package_in p p.main)

-- ---- one world

abbrev pub shown_entry : Plan → PlannedInterface → Option (Text × InterfaceMeaning)
shown_entry p i = option_map (λ path. (path, interface_meaning p i)) (path_of_planned p i)

abbrev pub world_package : Plan → PlannedPackage → PlannedWorld → WorldPackage
world_package p k w = record {
  identity = k.identity;
  name = w.name;
  world = world_meaning p w;
  shown = from_entries (filter_map (shown_entry p) p.interfaces);
}

-- what a plan means as its first world
unfoldable pub plan_world_meaning : Plan → Option WorldPackage
plan_world_meaning p = option_and_then (λ k. option_map (world_package p k) (world_in p 0)) (package_in p p.main)
