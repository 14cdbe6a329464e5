use Rattle.std.proofs.Common.{◌≡◌, map, take}
use Rattle.encode_types.proofs.shape.field_types.Given as goal

abbrev pub invariant-loop-field : goal.invariant-loop-field
invariant-loop-field l = l.types.items ≡ map (λ f. f.ty) (take l.field-index l.fields)
