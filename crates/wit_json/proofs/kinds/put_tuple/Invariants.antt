-- Those so far are written.
use Rattle.std.proofs.Common.{[], ◌∷◌, drop}
use Rattle.wit_json.specs.Listed.{type_token}
use Rattle.wit_json.proofs.Adding.{Lists}
use Rattle.wit_json.proofs.kinds.put_tuple.Given as goal

abbrev pub invariant-loop-ty : goal.invariant-loop-ty
invariant-loop-ty l = Lists (λ t. type_token t ∷ []) l.types (drop l.ty-index l.types) l.initial.w l.w
