-- What an iterator gives whose state shows the list of what is left.
use Rattle.std.proofs.Common.{◌≡◌, sym, ap, ◌∙◌, List, [], ◌∷◌}
use Rattle.std.specs.Iterator.{Drains, YieldsFirst}

pub drained : {S A : Type 0} (rest : S → List A) (xs : List A) (s : S) → Drains (YieldsFirst rest) s xs → xs ≡ rest s
drained rest [] s (u, (t, e, (left, after))) = sym left ∙ ap rest (sym e)
drained rest (x ∷ xs) s (u, (t, (j, first, more), end)) = ap (λ ys. x ∷ ys) (drained rest xs j (u, (t, more, end))) ∙ sym first
