use Rattle.std.proofs.Common.{◌≡◌, map, take}
use Rattle.read_rules.specs.Views.{numbered_function}
use Rattle.read_numbers.specs.NumberedParts.{numbered_shown_function}
use Rattle.read_numbers.proofs.views.functions_of.Given as goal

abbrev pub invariant-loop-function : goal.invariant-loop-function
invariant-loop-function l = map numbered_function l.functions.items ≡ map numbered_shown_function (take l.function-index l.shown)
