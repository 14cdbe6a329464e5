-- What it is for a `Resolve` to be built from a plan: each list of the one is the list of the other, entry by entry, without
-- documentation, and with no stability known.
use Rattle.std.specs.Prelude.{◌≡◌, ℕ, ◌+◌, Bool, true, false, ◌&&◌, List, [], ◌∷◌, map, Option, Some, None, option_map, is_some, is_none}
use Rattle.std.specs.List.{list_all}
use Rattle.indexmap.specs.IndexMap.{values}
use Rattle.wit_model.specs.declared.model.{Resolve.Resolve, Package.Package, World.World, WorldKey.WorldKey, TypeDef.TypeDef, Handle.Handle, Function.Function}
use Rattle.wit_model.specs.declared.model.{Interface.Interface, WorldItem.WorldItem, TypeDefKind.TypeDefKind, «Type».«Type» as ValueType, Stability.Stability}
use Rattle.wit_model.specs.declared.model.Docs.{Docs}
use Rattle.wit_model.specs.{Text.text_of, Text.optional_text, Names.is_version, Tree.Form, Lookup.identity_of, Rules.passes}
use Rattle.plan_meaning.specs.Plan.{Plan, PlannedKind, resource, alias, formed, PlannedType, PlannedFunction, PlannedInterface, PlannedKey, label, path_of, PlannedItem, interface, function, declares, PlannedWorld, PlannedPackage}
use Rattle.wit_model.specs.declared.model.WorldKey.TheVariants as key
use Rattle.wit_model.specs.declared.model.WorldItem.TheVariants as item
use Rattle.wit_model.specs.declared.model.TypeDefKind.TheVariants as kind
use Rattle.wit_model.specs.declared.model.Handle.TheVariants as handle
use Rattle.wit_model.specs.declared.model.«Type».TheVariants as ty
use Rattle.wit_model.specs.declared.model.Stability.TheVariants as stability

-- ---- types

-- the part that a type of a value is
abbrev pub part_of : ValueType → ℕ
part_of ty.Bool = 0
part_of ty.U8 = 1
part_of ty.U16 = 2
part_of ty.U32 = 3
part_of ty.U64 = 4
part_of ty.S8 = 5
part_of ty.S16 = 6
part_of ty.S32 = 7
part_of ty.S64 = 8
part_of ty.F32 = 9
part_of ty.F64 = 10
part_of ty.Char = 11
part_of ty.String = 12
part_of ty.ErrorContext = 13
part_of (ty.Id id) = 14 + id.0

abbrev pub given_parts : List (Option ValueType) → List ℕ
given_parts [] = []
given_parts (None ∷ ts) = given_parts ts
given_parts (Some t ∷ ts) = part_of t ∷ given_parts ts

abbrev pub planned_handle : Handle → PlannedKind
planned_handle (handle.Own id) = formed Form.own_of ((14 + id.0) ∷ [])
planned_handle (handle.Borrow id) = formed Form.borrow_of ((14 + id.0) ∷ [])

abbrev pub planned_kind : TypeDefKind → PlannedKind
planned_kind (kind.Record record_) = formed (Form.record_of (map (λ f. text_of f.name) record_.fields.items)) (map (λ f. part_of f.ty) record_.fields.items)
planned_kind kind.Resource = resource
planned_kind (kind.Handle h) = planned_handle h
planned_kind (kind.Flags flags) = formed (Form.flags_of (map (λ f. text_of f.name) flags.flags.items)) []
planned_kind (kind.Tuple tuple) = formed Form.tuple_of (map part_of tuple.types.items)
planned_kind (kind.Variant variant) =
    formed (Form.variant_of (map (λ c. (text_of c.name, is_some c.ty)) variant.cases.items)) (given_parts (map (λ c. c.ty) variant.cases.items))
planned_kind (kind.Enum enum) = formed (Form.enum_of (map (λ c. text_of c.name) enum.cases.items)) []
planned_kind (kind.Option t) = formed Form.option_of (part_of t ∷ [])
planned_kind (kind.Result result) = formed (Form.result_of (is_some result.ok) (is_some result.err)) (given_parts (result.ok ∷ result.err ∷ []))
planned_kind (kind.List t) = formed Form.list_of (part_of t ∷ [])
planned_kind (kind.Map k v) = formed Form.map_of (part_of k ∷ part_of v ∷ [])
planned_kind (kind.FixedLengthList t n) = formed (Form.fixed_list_of n) (part_of t ∷ [])
planned_kind (kind.Future t) = formed (Form.future_of (is_some t)) (given_parts (t ∷ []))
planned_kind (kind.Stream t) = formed (Form.stream_of (is_some t)) (given_parts (t ∷ []))
planned_kind (kind.Type_ t) = alias (part_of t)

abbrev pub planned_type : TypeDef → PlannedType
planned_type def = record { name = optional_text def.name; owner = def.owner; kind = planned_kind def.kind; external_id = optional_text def.external_id }

-- ---- functions, interfaces, worlds and packages

abbrev pub planned_function : Function → PlannedFunction
planned_function f = record {
  name = text_of f.name;
  kind = f.kind;
  params = map (λ x. (text_of x.name, part_of x.ty)) f.params.items;
  result = option_map part_of f.result;
  external_id = optional_text f.external_id;
}

abbrev pub planned_interface : Interface → PlannedInterface
planned_interface i = record {
  name = optional_text i.name;
  package_ = option_map (λ id. id.0) i.package;
  types = map (λ e. (text_of e.0, e.1.0)) i.types.entries;
  functions = map (λ e. (text_of e.0, planned_function e.1)) i.functions.entries;
}

abbrev pub planned_key : WorldKey → PlannedKey
planned_key (key.Name name) = label (text_of name)
planned_key (key.Interface id) = path_of id.0

abbrev pub planned_item : WorldItem → PlannedItem
planned_item (item.Interface id stability docs external_id) = interface id.0 (optional_text external_id)
planned_item (item.Function f) = function (planned_function f)
planned_item (item.Type_ id) = declares id.0

abbrev pub planned_entries : List (WorldKey × WorldItem) → List (PlannedKey × PlannedItem)
planned_entries es = map (λ e. (planned_key e.0, planned_item e.1)) es

abbrev pub planned_world : World → PlannedWorld
planned_world w = record {
  name = text_of w.name;
  package_ = option_map (λ id. id.0) w.package;
  imports = planned_entries w.imports.entries;
  exports = planned_entries w.exports.entries;
}

abbrev pub planned_package : Package → PlannedPackage
planned_package p = record {
  identity = identity_of p.name;
  interfaces = map (λ e. (text_of e.0, e.1.0)) p.interfaces.entries;
  worlds = map (λ e. (text_of e.0, e.1.0)) p.worlds.entries;
}

-- ---- without documentation and stability

-- whether there is no documentation
abbrev pub is_undocumented : Docs → Bool
is_undocumented docs = is_none docs.contents

-- whether no stability is known
abbrev pub is_unknown : Stability → Bool
is_unknown stability.Unknown = true
is_unknown _ = false

-- whether there is no documentation, and no stability is known
abbrev pub is_bare : Docs → Stability → Bool
is_bare docs stability_ = is_undocumented docs && is_unknown stability_

-- whether no field, case or flag has documentation
abbrev pub is_bare_kind : TypeDefKind → Bool
is_bare_kind (kind.Record record_) = list_all (λ f. is_undocumented f.docs) record_.fields.items
is_bare_kind (kind.Flags flags) = list_all (λ f. is_undocumented f.docs) flags.flags.items
is_bare_kind (kind.Variant variant) = list_all (λ c. is_undocumented c.docs) variant.cases.items
is_bare_kind (kind.Enum enum) = list_all (λ c. is_undocumented c.docs) enum.cases.items
is_bare_kind _ = true

-- whether a type has no documentation, and no stability is known
abbrev pub is_bare_type : TypeDef → Bool
is_bare_type def = is_bare def.docs def.stability && is_bare_kind def.kind

-- whether a function has no documentation, and no stability is known
abbrev pub is_bare_function : Function → Bool
is_bare_function f = is_bare f.docs f.stability

-- whether an interface and its functions have no documentation, and no stability is known
abbrev pub is_bare_interface : Interface → Bool
is_bare_interface i = is_bare i.docs i.stability && list_all is_bare_function (values i.functions)

-- whether an item has no documentation, and no stability is known
abbrev pub is_bare_item : WorldItem → Bool
is_bare_item (item.Interface id stability_ docs external_id) = is_bare docs stability_
is_bare_item (item.Function f) = is_bare_function f
is_bare_item (item.Type_ id) = true

-- whether a world and its items have no documentation, and no stability is known
abbrev pub is_bare_world : World → Bool
is_bare_world w = is_bare w.docs w.stability && (list_all is_bare_item (values w.imports) && list_all is_bare_item (values w.exports))

-- No documentation stands in the `Resolve`, and every stability is unknown.
pub record IsBare (r : Resolve) : Type 0 where
  pub packages : list_all (λ p. is_undocumented p.docs) r.packages.items ≡ true
  pub interfaces : list_all is_bare_interface r.interfaces.items ≡ true
  pub worlds : list_all is_bare_world r.worlds.items ≡ true
  pub types : list_all is_bare_type r.types.items ≡ true

-- ---- built

pub record IsBuilt (p : Plan) (r : Resolve) : Type 0 where
  pub packages : map planned_package r.packages.items ≡ p.packages
  pub interfaces : map planned_interface r.interfaces.items ≡ p.interfaces
  pub worlds : map planned_world r.worlds.items ≡ p.worlds
  pub types : map planned_type r.types.items ≡ p.types
  -- the version of each package is one of Semantic Versioning 2.0.0
  pub versions : list_all (λ k. passes is_version k.name.version) r.packages.items ≡ true
  pub bare : IsBare r
