use Rattle.std.proofs.Common.{◌≡◌, map, take}
use Rattle.compat_meaning.proofs.kinds.field_types.Given as goal

-- the types so far
abbrev pub invariant-loop-field : goal.invariant-loop-field
invariant-loop-field l = l.types.items ≡ map (λ f. f.ty) (take l.field-index l.fields)
