-- Texts up to a bound.
use Rattle.std.specs.Prelude.{◌<◌, ◌≤◌, ℕ, List, length}
use Rattle.witc_within.specs.declared.texts.Within.{Within}
use Rattle.witc_within.specs.declared.texts.Within.TheVariants as within

-- A text of which this is true, whole, with at most so many bytes; or there is one of which it is true, and it has more.
abbrev pub TextWithin : (List ℕ → Type 0) → ℕ → Within → Type 0
TextWithin Is most (within.Text text) = Is text.items × (length text.items ≤ most)
TextWithin Is most within.Beyond = (text : List ℕ) × Is text × (most < length text)
