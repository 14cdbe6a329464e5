-- Lemmas on the parts of a tree.
use Rattle.std.proofs.Common.{List, [], ap, refl, ◌∷◌, ◌≡◌}
use Rattle.wit_model.specs.Tree.{Tree, child_list, children}

pub child_list_of_children : (ts : List Tree) → child_list (children ts) ≡ ts
child_list_of_children [] = refl
child_list_of_children (t ∷ ts) = ap (λ us. t ∷ us) (child_list_of_children ts)
