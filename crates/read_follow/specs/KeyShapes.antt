-- The shapes that keys of the table stand for.
use Rattle.std.specs.{Prelude.ℕ, Prelude.Bool, Prelude.List, Prelude.map, Borrow.Bor}
use Rattle.wit_model.specs.Text.{Text}
use Rattle.plan_meaning.specs.Shapes.{Shape}
use Rattle.read_follow.specs.declared.keys.Key.{Key}

abbrev pub label_of : Bor (List ℕ) × Bool → Text × Bool
label_of p = (p.0.now, p.1)

-- what a key says, without where it lies in memory
abbrev pub shape_of : Key → Shape
shape_of k = record { sort = k.sort; number = k.number; labels = map label_of k.labels.items; parts = k.parts.items }

-- its labels
abbrev pub labels_of : Key → List Text
labels_of k = map (λ p. p.0.now) k.labels.items
