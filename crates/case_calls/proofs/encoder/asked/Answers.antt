use Rattle.std.proofs.Common.{refl, sym, subst, [], ◌∷◌}
use Rattle.encode_types.specs.{Fits.CanEncode, Scope.Scope}
use Rattle.case_calls.proofs.encoder.asked.Goals as goal

pub encode_valtype-requires : goal.encode_valtype-requires
encode_valtype-requires c = λ _. ((refl, tt), (c.requires.encodable, c.requires.agree))

pub returns : goal.returns
returns c =
    let leaves = c.encode_valtype.ensures.leaves in
    record { encodable = subst (λ (s : Scope). CanEncode c.args.resolve.now s (c.args.ty.now ∷ [])) (sym leaves.scope_stays) c.requires.encodable; agree = leaves.agree }
