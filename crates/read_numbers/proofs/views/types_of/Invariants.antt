use Rattle.std.proofs.Common.{◌≡◌, map, take}
use Rattle.read_rules.specs.Views.{numbered_type}
use Rattle.read_numbers.specs.NumberedParts.{numbered_type as shown_type}
use Rattle.read_numbers.proofs.views.types_of.Given as goal

abbrev pub invariant-loop-ty : goal.invariant-loop-ty
invariant-loop-ty l = map numbered_type l.types.items ≡ map shown_type (take l.ty-index l.shown)
