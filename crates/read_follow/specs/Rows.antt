-- Rows of a definition, its fields, cases or values: what each of them is, the labels and the parts.
use Rattle.std.specs.Prelude.{◌≡◌, ℕ, Bool, true, List, [], ◌∷◌, ◌++◌, drop, option_to_list, Option, Some}
use Rattle.std.specs.List.{flat_map}
use Rattle.wit_model.specs.{Text.Text, Tree.Tree, Tree.is_given}
use Rattle.comp_bytes.specs.Reading.{◌>>=◌}
use Rattle.comp_meaning.specs.Follow.{each}

-- a field has a label and a part
abbrev pub field_labels : Text × Tree → List (Text × Bool)
field_labels f = (f.0, true) ∷ []

abbrev pub field_trees : Text × Tree → List Tree
field_trees f = f.1 ∷ []

-- a case has a label, and a part if it has a payload
abbrev pub case_labels : Text × Option Tree → List (Text × Bool)
case_labels c = (c.0, is_given c.1) ∷ []

abbrev pub case_trees : Text × Option Tree → List Tree
case_trees c = option_to_list c.1

-- a value has a part
abbrev pub value_labels : Tree → List (Text × Bool)
value_labels t = []

abbrev pub value_trees : Tree → List Tree
value_trees t = t ∷ []

-- what has been found, and what is found behind it
abbrev pub behind_rows : {Y : Type 0} → List Y → Option (List Y) → Option (List Y)
behind_rows front found = found >>= λ ys. Some (front ++ ys)

module _ {A Y : Type 0} (f : A → Option Y) (labs : Y → List (Text × Bool)) (trees : Y → List Tree) where
  -- The rows are all found, and these are their labels and their trees.
  pub record RowsOf (rows : List A) (labels : List (Text × Bool)) (ts : List Tree) : Type 0 where
    pub ys : List Y
    pub found : each f rows ≡ Some ys
    pub labels_are : flat_map labs ys ≡ labels
    pub trees_are : flat_map trees ys ≡ ts

  -- So many rows are found, with these labels and trees; those behind them decide.
  pub record RowsSoFar (rows : List A) (i : ℕ) (labels : List (Text × Bool)) (ts : List Tree) : Type 0 where
    pub ys : List Y
    pub kept : behind_rows ys (each f (drop i rows)) ≡ each f rows
    pub labels_are : flat_map labs ys ≡ labels
    pub trees_are : flat_map trees ys ≡ ts
