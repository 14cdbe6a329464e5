-- Documentation as it is gathered: its lines, each with a line feed behind it.
use Rattle.std.specs.Prelude.{◌≡◌, ◌-◌, ◌<◌, ◌≤◌, ◌==◌, ◌++◌, ℕ, true, false, not, List, [], ◌∷◌, length, drop, slice_index}
use Rattle.std.specs.List.{list_all, AllByRecursion}
use Rattle.wit_model.specs.Text.{Text}
use Rattle.text_tokens.specs.Documentation.{docs_in}

-- lines, each with a line feed behind it
abbrev pub written : List Text → Text
written [] = []
written (line ∷ more) = line ++ (10 ∷ written more)

-- a line has no line feed in it, and no carriage return at its end
pub record IsLine (line : Text) : Type 0 where
  pub one : list_all (λ b. not (b == 10)) line ≡ true
  pub ends : (slice_index line (length line - 1) == 13) ≡ false

-- The documentation of a gap from one byte up to another is added.
pub record AddsDocs (gap : Text) (at : ℕ) (old new : Text) (next : ℕ) : Type 0 where
  pub added : List Text
  pub here : new ≡ old ++ written added
  pub are_lines : AllByRecursion IsLine added
  pub docs : docs_in (drop at gap) ≡ added ++ docs_in (drop next gap)
  pub further : at < next
  pub within : next ≤ length gap
