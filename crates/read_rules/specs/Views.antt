-- What is shown of interfaces, as the numbers and texts that it stands for.
use Rattle.std.specs.Prelude.{map}
use Rattle.wit_model.specs.Text.{Text}
use Rattle.plan_meaning.specs.NumberedViews.{NumberedFunction, NumberedSlot, NumberedType, NumberedView, resource, value}
use Rattle.read_rules.specs.declared.views.{TypeSlot.TypeSlot, View.View, ViewFunction.ViewFunction, ViewType.ViewType}
use Rattle.read_rules.specs.Tables.{given_text}
use Rattle.read_rules.specs.declared.views.TypeSlot.TheVariants as slots

abbrev pub numbered_slot : TypeSlot → NumberedSlot
numbered_slot (slots.Value k) = value k
numbered_slot (slots.Resource k) = resource k

abbrev pub numbered_type : ViewType → NumberedType
numbered_type x = record { name = x.name.now; declared = x.declared; external_id = given_text x.external_id; slot = numbered_slot x.slot }

abbrev pub numbered_function : ViewFunction → Text × NumberedFunction
numbered_function f = (f.name.now, record { signature = f.signature; external_id = given_text f.external_id })

abbrev pub numbered_view : View → NumberedView
numbered_view v = record { types = map numbered_type v.types.now; functions = map numbered_function v.functions.now }
