use Rattle.std.proofs.Common.{◌≡◌, map, take}
use Rattle.bind_copy.specs.Copies.{number_under}
use Rattle.bind_union.specs.Views.{renamed_type}
use Rattle.bind_copy.proofs.kinds.copy_types.Given as goal

abbrev pub invariant-loop-ty : goal.invariant-loop-ty
invariant-loop-ty l = l.copy.items ≡ map (renamed_type (number_under l.numbers)) (take l.ty-index l.types)
