-- What the code's plan states, as a plan in plain numbers and texts.
use Rattle.std.specs.Prelude.{ℕ, ◌+◌, Bool, List, [], ◌∷◌, map, Option, String, option_map, is_some}
use Rattle.std.specs.Borrow.{Bor}
use Rattle.std.specs.declared.alloc.Global.{Global}
use Rattle.wit_model.specs.declared.model.{«Type».«Type» as ValueType, Case.Case, Function.Function, Param.Param}
use Rattle.wit_model.specs.{Names.PackageIdentity, Text.Text, Text.text_of, Tree.Form}
use Rattle.plan_meaning.specs.Plan.{resource, alias, formed, label, path_of, interface, function, declares}
use Rattle.plan_meaning.specs.Built.{part_of, given_parts, planned_function}
use Rattle.plan_build.specs.declared.plan.{Plan.Plan, PlannedPackage.PlannedPackage, PlannedInterface.PlannedInterface, PlannedFunction.PlannedFunction}
use Rattle.plan_build.specs.declared.plan.{PlannedWorld.PlannedWorld, PlannedItem.PlannedItem, PlannedType.PlannedType, PlannedKind.PlannedKind}
use Rattle.plan_build.specs.declared.plan.PlannedKey.{PlannedKey}
use Rattle.plan_meaning.specs.Plan as plan
use Rattle.plan_build.specs.declared.plan.PlannedKey.TheVariants as key
use Rattle.plan_build.specs.declared.plan.PlannedItem.TheVariants as item
use Rattle.plan_build.specs.declared.plan.PlannedKind.TheVariants as kind

abbrev pub stated_text : Option (Bor Text) → Option Text
stated_text o = option_map (λ t. t.now) o

abbrev pub stated_names : List (Bor Text) → List Text
stated_names ts = map (λ t. t.now) ts

-- ---- types

-- the label of a case, and whether it has a payload
abbrev pub stated_case : Bor Text × Option ValueType → Text × Bool
stated_case c = (c.0.now, is_some c.1)

abbrev pub marked_case : Case → Text × Bool
marked_case c = (text_of c.name, is_some c.ty)

abbrev pub stated_kind : PlannedKind → plan.PlannedKind
stated_kind kind.Resource = resource
stated_kind (kind.Alias t) = alias (part_of t)
stated_kind (kind.Record fields) = formed (Form.record_of (map (λ f. f.0.now) fields.items)) (map (λ f. part_of f.1) fields.items)
stated_kind (kind.Variant cases) = formed (Form.variant_of (map stated_case cases.items)) (given_parts (map (λ c. c.1) cases.items))
stated_kind (kind.List t) = formed Form.list_of (part_of t ∷ [])
stated_kind (kind.FixedLengthList t n) = formed (Form.fixed_list_of n) (part_of t ∷ [])
stated_kind (kind.Map k v) = formed Form.map_of (part_of k ∷ part_of v ∷ [])
stated_kind (kind.Tuple ts) = formed Form.tuple_of (map part_of ts.items)
stated_kind (kind.Flags names) = formed (Form.flags_of (stated_names names.items)) []
stated_kind (kind.Enum names) = formed (Form.enum_of (stated_names names.items)) []
stated_kind (kind.Option t) = formed Form.option_of (part_of t ∷ [])
stated_kind (kind.Result ok err) = formed (Form.result_of (is_some ok) (is_some err)) (given_parts (ok ∷ err ∷ []))
stated_kind (kind.Own id) = formed Form.own_of ((14 + id.0) ∷ [])
stated_kind (kind.Borrow id) = formed Form.borrow_of ((14 + id.0) ∷ [])
stated_kind (kind.Future t) = formed (Form.future_of (is_some t)) (given_parts (t ∷ []))
stated_kind (kind.Stream t) = formed (Form.stream_of (is_some t)) (given_parts (t ∷ []))

abbrev pub stated_type : PlannedType → plan.PlannedType
stated_type t = record { name = stated_text t.name; owner = t.owner; kind = stated_kind t.kind; external_id = stated_text t.external_id }

-- ---- functions, interfaces, worlds and packages

-- a number under its name, of a plan and of a map
abbrev pub stated_number : {N : Type 0} → Bor Text × N → Text × N
stated_number e = (e.0.now, e.1)

abbrev pub built_number : {N : Type 0} → String Global × N → Text × N
built_number e = (text_of e.0, e.1)

abbrev pub built_param : Param → Text × ℕ
built_param x = (text_of x.name, part_of x.ty)

-- a function of a map under its name
abbrev pub built_function : String Global × Function → Text × plan.PlannedFunction
built_function e = (text_of e.0, planned_function e.1)

abbrev pub stated_params : List (Bor Text × ValueType) → List (Text × ℕ)
stated_params es = map (λ e. (e.0.now, part_of e.1)) es

abbrev pub stated_function : PlannedFunction → plan.PlannedFunction
stated_function f = record {
  name = f.name.now;
  kind = f.kind;
  params = stated_params f.params.items;
  result = option_map part_of f.result;
  external_id = stated_text f.external_id;
}

-- a function under its name
abbrev pub named_function : PlannedFunction → Text × plan.PlannedFunction
named_function f = (f.name.now, stated_function f)

abbrev pub stated_interface : PlannedInterface → plan.PlannedInterface
stated_interface i = record {
  name = stated_text i.name;
  package_ = option_map (λ id. id.0) i.package;
  types = map (λ e. (e.0.now, e.1.0)) i.types.items;
  functions = map named_function i.functions.items;
}

abbrev pub stated_key : PlannedKey → plan.PlannedKey
stated_key (key.Label name) = label name.now
stated_key (key.Path id) = path_of id.0

abbrev pub stated_item : PlannedItem → plan.PlannedItem
stated_item (item.Interface id external_id) = interface id.0 (stated_text external_id)
stated_item (item.Function f) = function (stated_function f)
stated_item (item.Declares id) = declares id.0

abbrev pub stated_entry : PlannedKey × PlannedItem → plan.PlannedKey × plan.PlannedItem
stated_entry e = (stated_key e.0, stated_item e.1)

abbrev pub stated_world : PlannedWorld → plan.PlannedWorld
stated_world w = record {
  name = w.name.now;
  package_ = option_map (λ id. id.0) w.package;
  imports = map stated_entry w.imports.items;
  exports = map stated_entry w.exports.items;
}

abbrev pub stated_identity : PlannedPackage → PackageIdentity
stated_identity p = record { namespace = p.namespace.now; name = p.name.now; version = stated_text p.version }

abbrev pub stated_package : PlannedPackage → plan.PlannedPackage
stated_package p = record {
  identity = stated_identity p;
  interfaces = map (λ e. (e.0.now, e.1.0)) p.interfaces.items;
  worlds = map (λ e. (e.0.now, e.1.0)) p.worlds.items;
}

abbrev pub stated_plan : Plan → plan.Plan
stated_plan p = record {
  packages = map stated_package p.packages.items;
  interfaces = map stated_interface p.interfaces.items;
  worlds = map stated_world p.worlds.items;
  types = map stated_type p.types.items;
  main = p.main.0;
}
