-- The lines that are written.
use Rattle.std.specs.Prelude.{ℕ, List, [], ◌∷◌, ◌++◌, codes}

-- a text and its line end
abbrev pub line_of : List ℕ → List ℕ
line_of text = text ++ (10 ∷ [])

abbrev pub usage : List ℕ
usage = line_of (codes "usage: witc demo text | demo hex | print | module | strip | compat PREV NEW")

abbrev pub compatible : List ℕ
compatible = line_of (codes "compatible")

abbrev pub no_such_world : List ℕ → List ℕ
no_such_world name = line_of (codes "no such world: " ++ name)
