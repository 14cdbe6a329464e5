-- Worlds that have a sense, and what comes of two.
use Rattle.std.proofs.{Common.◌≡◌, Common.◌∙◌, Common.sym, Common.subst, Common.ℕ, Common.Bool, Common.true, Common.false, Common.List, lemmas.Bool.true≢false}
use Rattle.std.specs.Prelude.{◌↔◌, IsTrue}
use Rattle.wit_model.specs.declared.{error.Error.Error}
use Rattle.wit_model.specs.{Refusals.IsMemory}
use Rattle.wit_component.specs.Decoded.{RefusesBytes}

-- what is told of two senses
pub have-same : (X : Type 0) (b : Bool) → b ≡ true → (IsTrue b ↔ X) → X
have-same X b is exact = exact.0 is

pub have-other : (X : Type 0) (b : Bool) → b ≡ false → (IsTrue b ↔ X) → X → ⊥
have-other X b is exact x = true≢false (sym (exact.1 x) ∙ is)

-- any bytes are refused where memory runs out
pub memory-refused : (bytes : List ℕ) (e : Error) → IsMemory e → RefusesBytes bytes e
memory-refused bytes e is = subst (RefusesBytes bytes) (sym is) tt
