-- What was followed, in the numbers and texts over which the rules of reading are said.
use Rattle.std.specs.Prelude.{ℕ, List, [], map, Option, None, option_map, slice_get, unwrap_or}
use Rattle.wit_model.specs.Text.{Text}
use Rattle.comp_bytes.specs.RawOf.{text_of}
use Rattle.plan_meaning.specs.NumberedViews.{Tables, NumberedFunction, NumberedSlot, NumberedType, NumberedView}
use Rattle.plan_meaning.specs.NumberedWorlds.{NumberedInstance, NumberedKey, NumberedScope, NumberedSeen, NumberedShown}
use Rattle.plan_meaning.specs.Shapes.{Shape}
use Rattle.read_follow.specs.Functions.{FunctionShape}
use Rattle.read_follow.specs.declared.{instance_keys.InstanceKey.InstanceKey, scopes.Scope.Scope, views.ShownFunction.ShownFunction, views.ShownType.ShownType}
use Rattle.read_follow.specs.declared.{scopes.Instance.Instance, scopes.Seen.Seen, scopes.Shown.Shown, slots.Slot.Slot, views.View.View}
use Rattle.plan_meaning.specs.NumberedViews as views
use Rattle.plan_meaning.specs.NumberedWorlds as worlds
use Rattle.read_follow.specs.declared.instance_keys.InstanceKey.TheVariants as keys
use Rattle.read_follow.specs.declared.scopes.Shown.TheVariants as shown
use Rattle.read_follow.specs.declared.slots.Slot.TheVariants as slots

-- ---- tables

abbrev pub numbered_function : FunctionShape → views.FunctionShape
numbered_function f = record { is_async = f.is_async; params = f.params; result = f.outcome }

abbrev pub tables_in : List Shape → List FunctionShape → List (Option Text) → Tables
tables_in shapes fs paths = record { shapes = shapes; functions = map numbered_function fs; paths = paths }

-- ---- views

-- A slot of a type that is shown is a value or a resource.
abbrev pub numbered_slot : Slot → NumberedSlot
numbered_slot (slots.Value part) = views.value part
numbered_slot (slots.Resource part) = views.resource part
numbered_slot (slots.Function n) = views.value 0
numbered_slot (slots.Instance b n) = views.value 0

abbrev pub numbered_type : ShownType → NumberedType
numbered_type x = record { name = x.name.now; declared = x.declared; external_id = option_map text_of x.external_id; slot = numbered_slot x.slot }

abbrev pub numbered_shown_function : ShownFunction → Text × NumberedFunction
numbered_shown_function f = (f.name.now, record { signature = f.function; external_id = option_map text_of f.external_id })

abbrev pub numbered_view : View → NumberedView
numbered_view v = record { types = map numbered_type v.types.items; functions = map numbered_shown_function v.functions.items }

-- ---- scopes

abbrev pub numbered_key : InstanceKey → NumberedKey
numbered_key (keys.Path p) = worlds.path p
numbered_key (keys.Label l p) = worlds.label l.now p
numbered_key (keys.Implementing l p) = worlds.implementing l.now p

-- the path of a place, and nothing where it has none
abbrev pub path_in : List (Option Text) → ℕ → Text
path_in paths p = unwrap_or (unwrap_or (slice_get paths p) None) []

-- the text of a key: the path of a place, or a label
abbrev pub text_in : List (Option Text) → InstanceKey → Text
text_in paths (keys.Path p) = path_in paths p
text_in paths (keys.Label l p) = l.now
text_in paths (keys.Implementing l p) = l.now

abbrev pub no_view : NumberedView
no_view = record { types = []; functions = [] }

-- what an import or an export is, where the instances show these
abbrev pub numbered_shown : List NumberedView → Shown → NumberedShown
numbered_shown vs (shown.Instance key n) = worlds.instance (numbered_key key) (unwrap_or (slice_get vs n) no_view)
numbered_shown vs (shown.Function name f) = worlds.function f
numbered_shown vs (shown.Type name part d) = worlds.declares d

abbrev pub name_in : List (Option Text) → Shown → Text
name_in paths (shown.Instance key n) = text_in paths key
name_in paths (shown.Function name f) = name.now
name_in paths (shown.Type name part d) = name.now

abbrev pub numbered_seen : List (Option Text) → List NumberedView → Seen → NumberedSeen
numbered_seen paths vs s = record { key = name_in paths s.shown; shown = numbered_shown vs s.shown; external_id = option_map text_of s.external_id }

abbrev pub instance_view : Instance → NumberedView
instance_view i = numbered_view i.view

abbrev pub numbered_instance : Instance → NumberedInstance
numbered_instance i = record { place = i.place; view = instance_view i }

abbrev pub numbered_scope : List (Option Text) → Scope → NumberedScope
numbered_scope paths s = record {
  home = s.home;
  imports = map (numbered_seen paths (map instance_view s.instances.items)) s.imports.items;
  exports = map (numbered_seen paths (map instance_view s.instances.items)) s.exports.items;
  instances = map numbered_instance s.instances.items;
}
