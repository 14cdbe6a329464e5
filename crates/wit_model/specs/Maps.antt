-- Finite maps that are made of lists of entries.
use Rattle.std.specs.{Prelude.◌≡◌, Prelude.List, List.Contains, FinMap.from_entries}
use Rattle.wit_model.specs.Text.{Text, TextMap}

-- Both lists have the same entries, in whatever order and however often, and no name has two values.
pub record HaveSameEntries {X : Type 0} (es fs : List (Text × X)) : Type 0 where
  pub one_value : (k : Text) (v w : X) → Contains es (k, v) → Contains es (k, w) → v ≡ w
  pub there : (k : Text) (v : X) → Contains es (k, v) → Contains fs (k, v)
  pub here : (k : Text) (v : X) → Contains fs (k, v) → Contains es (k, v)

-- Such lists make one map.
abbrev pub OneMap : Type 0 → Type 0
OneMap X = (es fs : List (Text × X)) → HaveSameEntries es fs → ◌≡◌ {A = TextMap X} (from_entries es) (from_entries fs)
