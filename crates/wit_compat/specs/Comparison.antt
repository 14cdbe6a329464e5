-- A comparison of two `Resolve`s.
use Rattle.std.specs.{Prelude.refl, Coded.Coded, Coded.code_by, Coded.coded×}
use Rattle.wit_model.specs.declared.model.Resolve.{Resolve}
use Rattle.wit_model.specs.Valid.{IsValid}

-- the two
pub record Comparison : Type 0 where
  pub first : Resolve
  pub second : Resolve

-- a comparison is stored as the pair of its fields, by how a `Resolve` is
abbrev pub comparison_code : Coded Resolve → Coded Comparison
comparison_code of_resolve =
    code_by (Resolve × Resolve) (coded× of_resolve of_resolve) (λ c. (c.first, c.second)) (λ p. record { first = p.0; second = p.1 }) (λ _. refl)

-- Both are valid.
pub record IsReady (c : Comparison) : Type 0 where
  pub first : IsValid c.first
  pub second : IsValid c.second
