use Rattle.std.proofs.Common.{ap, ◌∙◌, [], ◌∷◌, ◌++◌, false, map, List, ℕ, Bool}
use Rattle.std.specs.Borrow.{Bor}
use Rattle.plan_meaning.specs.Shapes.{a_name}
use Rattle.read_follow.specs.KeyShapes.{label_of}
use Rattle.read_follow.proofs.shows.name_number.Goals as goal

pub number_of-requires : goal.number_of-requires
number_of-requires c =
    let labels = ap (map label_of) (c.in_ok-push.ensures.items ∙ ap (λ (ls : List (Bor (List ℕ) × Bool)). ls ++ (c.args.name, false) ∷ []) c.in_ok-labels.ensures.items) in
    let parts = c.new.ensures.items in
    a_name c.args.here c.args.name.now (λ i. record { sort = 0; number = c.args.here; labels = labels i; parts = parts i })
