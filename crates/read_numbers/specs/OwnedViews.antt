-- Views that are kept beside what was followed.
use Rattle.std.specs.Prelude.{map}
use Rattle.plan_meaning.specs.NumberedViews.{NumberedView}
use Rattle.read_rules.specs.Views.{numbered_function, numbered_type}
use Rattle.read_numbers.specs.declared.views.OwnedView.{OwnedView}

abbrev pub owned_view : OwnedView → NumberedView
owned_view v = record { types = map numbered_type v.types.items; functions = map numbered_function v.functions.items }
