use Rattle.std.proofs.Common.{◌≡◌, map, take}
use Rattle.wit_model.specs.Text.{text_of}
use Rattle.encode_types.specs.Slots.{texts}
use Rattle.encode_types.proofs.definition.flag_names.Given as goal

abbrev pub invariant-loop-flag : goal.invariant-loop-flag
invariant-loop-flag l = texts l.names.items ≡ map (λ f. text_of f.name) (take l.flag-index l.flags)
