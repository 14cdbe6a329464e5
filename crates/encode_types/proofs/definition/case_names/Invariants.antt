use Rattle.std.proofs.Common.{◌≡◌, map, take}
use Rattle.wit_model.specs.Text.{text_of}
use Rattle.encode_types.specs.Slots.{texts}
use Rattle.encode_types.proofs.definition.case_names.Given as goal

abbrev pub invariant-loop-case : goal.invariant-loop-case
invariant-loop-case l = texts l.names.items ≡ map (λ c. text_of c.name) (take l.case-index l.cases)
