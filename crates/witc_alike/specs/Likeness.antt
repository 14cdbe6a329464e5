-- Whether two worlds of two packages have one sense.
use Rattle.std.specs.Prelude.{◌≡◌, ◌≢◌, ℕ, List, Some, None}
use Rattle.wit_model.specs.declared.{error.Error.Error, model.Resolve.Resolve, model.WorldId.WorldId}
use Rattle.wit_component.specs.{Decoded.IsDecoded, Decoded.RefusesBytes, Senses.sense_of}
use Rattle.witc_texts.specs.Named.{NamesWorld}
use Rattle.witc_alike.specs.declared.likeness.Alike.{Alike}
use Rattle.compat_meaning.specs.declared.place.Place.TheVariants as place
use Rattle.witc_alike.specs.declared.likeness.Alike.TheVariants as alike

-- The bytes mean a package, and the number is of its world of this name.
pub record HasWorldNamed (bytes name : List ℕ) (r : Resolve) (world : WorldId) : Type 0 where
  pub number : ℕ
  pub decoded : IsDecoded bytes r number
  pub named : NamesWorld r number name (Some world)

-- The bytes mean a package without a world of this name.
pub record HasNoWorld (bytes name : List ℕ) : Type 0 where
  pub resolve : Resolve
  pub number : ℕ
  pub decoded : IsDecoded bytes resolve number
  pub named : NamesWorld resolve number name None

-- What comes of two names: the worlds have one sense, or not; or one isn't there, the first before the second.
pub data ComparesTwo (bytes name other other_name : List ℕ) : Alike → Type 0 where
  same : (r s : Resolve) (a b : WorldId) → HasWorldNamed bytes name r a → HasWorldNamed other other_name s b
      → sense_of r (place.World a) ≡ sense_of s (place.World b)
      → ComparesTwo bytes name other other_name alike.Same
  differ : (r s : Resolve) (a b : WorldId) → HasWorldNamed bytes name r a → HasWorldNamed other other_name s b
      → sense_of r (place.World a) ≢ sense_of s (place.World b)
      → ComparesTwo bytes name other other_name alike.Other
  no_first : HasNoWorld bytes name → ComparesTwo bytes name other other_name alike.NoFirst
  no_second : (r : Resolve) (a : WorldId) → HasWorldNamed bytes name r a → HasNoWorld other other_name → ComparesTwo bytes name other other_name alike.NoSecond

-- The first bytes mean no package; or they mean one with a world of this name, and the second mean none. Else memory ran out, which both say.
pub data RefusesTwo (bytes name other : List ℕ) : Error → Type 0 where
  first : (e : Error) → RefusesBytes bytes e → RefusesTwo bytes name other e
  second : (r : Resolve) (a : WorldId) (e : Error) → HasWorldNamed bytes name r a → RefusesBytes other e → RefusesTwo bytes name other e
