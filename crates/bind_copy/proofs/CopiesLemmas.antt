-- Lemmas on what copies of entries are named.
use Rattle.bind_copy.specs.Copies.{names_in, type_names_under}
use Rattle.std.proofs.Common.{List, [], ap, map, refl, ℕ, ◌∷◌, ◌≡◌}
use Rattle.std.specs.Prelude.{String}
use Rattle.std.specs.declared.alloc.Global.{Global}
use Rattle.wit_model.specs.Text.{Text, text_of}
use Rattle.wit_model.specs.declared.model.TypeId.{TypeId}

pub names_alone_under : (numbers : List ℕ) (es : List (String Global × TypeId)) → map (λ (x : Text × ℕ). x.0) (type_names_under numbers es) ≡ names_in es
names_alone_under numbers [] = refl
names_alone_under numbers (e ∷ es) = ap (λ l. text_of e.0 ∷ l) (names_alone_under numbers es)
