-- The first element of a list, and what follows it.
use Rattle.std.proofs.Common.{List, [], ◌∷◌}

abbrev pub head-of : {A : Type 0} → List A → A → A
head-of [] d = d
head-of (x ∷ xs) d = x

abbrev pub tail-of : {A : Type 0} → List A → List A
tail-of [] = []
tail-of (x ∷ xs) = xs
