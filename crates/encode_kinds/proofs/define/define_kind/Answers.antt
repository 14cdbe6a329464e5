use Rattle.std.proofs.Common.{◌≡◌, refl, ℕ, ap, cond, arith}
use Rattle.encode_types.proofs.{Written.ready-one, Owning.own-definition}
use Rattle.encode_types.specs.Kinds.{has_definition}
use Rattle.encode_kinds.proofs.define.define_kind.Goals as goal

pub define_alias-requires : goal.define_alias-requires
define_alias-requires g c = λ _. (
  (refl, tt),
  (ready-one (g.E.ValtypeEncoder.view c.args.enc.now).maps c.in-Type_.ty (rw c.in-Type_.is at c.requires.ready), ((rw c.in-Type_.is at c.requires.formed), c.requires.agree)),
)

pub define_shape-requires : goal.define_shape-requires
define_shape-requires g c = λ _. (
  (refl, tt),
  (rw c.shape_of.ensures c.requires.ready, (rw c.shape_of.ensures (c.requires.formed (own-definition c.args.kind.now c.requires.kind c.in_default.not-Type_)), c.requires.agree)),
)

pub returns-clause-held : goal.returns-clause-held
returns-clause-held g c =
    let one : ◌≡◌ {A = ℕ} (cond (has_definition c.args.kind.now) 1 0) 1 = ap (λ b. cond {A = ℕ} b 1 0) (own-definition c.args.kind.now c.requires.kind c.in_default.not-Type_) in
    let held = c.define_shape.ensures.held in
    omega (arith, one, held)
