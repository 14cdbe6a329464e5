-- Needs of types, by their places among the types of a scope.
use Rattle.std.specs.Prelude.{◌<◌, ℕ, List, Vec}
use Rattle.std.specs.Global.{Global}
use Rattle.std.specs.List.{AllByRecursion}
use Rattle.text_names.specs.declared.needs.Need.{Need}

-- The numbers of needs are below this one.
abbrev pub AreBelow : ℕ → List Need → Type 0
AreBelow count needs = AllByRecursion (λ need. need.number < count) needs

-- They are so in each of the lists.
abbrev pub AreAllBelow : ℕ → List (Vec Need Global) → Type 0
AreAllBelow count all = AllByRecursion (λ needs. AreBelow count needs.items) all

-- Needs that come are below this number.
pub record StayBelow (count : ℕ) (old new : List Need) : Type 0 where
  pub stay : AreBelow count old → AreBelow count new
