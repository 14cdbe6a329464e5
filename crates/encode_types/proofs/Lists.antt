-- Lists, element by element.
use Rattle.std.proofs.Common.{[], arith}
use Rattle.std.specs.List.{Contains}

-- ---- elements

-- ---- reads

pub none-in : {X : Type 0} (x : X) {P : Type 0} → Contains [] x → P
none-in x (k, l, e) = absurd (omega (arith, l))
