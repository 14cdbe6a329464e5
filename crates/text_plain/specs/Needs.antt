-- What worlds include, by number.
use Rattle.std.specs.Prelude.{◌≡◌, ◌<◌, ℕ, List, Some, slice_get}
use Rattle.text_plain.specs.declared.needs.Need.{Need}

-- The numbers are below this one.
abbrev pub AreBelow : ℕ → List Need → Type 0
AreBelow count needs = (n : ℕ) (need : Need) → slice_get needs n ≡ Some need → need.number < count
