-- What was kept of each type is true wherever the rules of reading ask for it (Component Model WIT.md, "Worlds" and "Package Format").
use Rattle.std.specs.Prelude.{◌≡◌, ℕ, Bool, List, length, map, slice_get, Some}
use Rattle.std.specs.List.{AllByRecursion}
use Rattle.comp_bytes.specs.Levels.{Piece}
use Rattle.plan_meaning.specs.{NumberedMembers.IsKnownSight, NumberedViews.NumberedView, Shapes.shape_trees}
use Rattle.plan_meaning.specs.NumberedWorlds.{HasPath, NumberedScope, ScopeStands, sights_of_scope}
use Rattle.read_rules.specs.declared.tables.Fact.{Fact}
use Rattle.read_follow.specs.Facts.{FactsHold}
use Rattle.read_parts.specs.declared.following.Followed.{Followed}
use Rattle.read_parts.specs.Input.{IsFollowed}
use Rattle.read_numbers.specs.{FactLaws.known_by, Facts.followed_fact, NumberedInput.tables_of, PlacedNumbers.scopes_in, PlacedNumbers.IsPlacedView}

-- there is a fact of each type, and it is true
pub record AreKnown (x : Followed) (facts : List Fact) : Type 0 where
  pub many : length facts ≡ length x.table
  pub hold : FactsHold (map followed_fact facts) (λ place. shape_trees place x.table)

-- What a scope shows is known, and so is each view that it gives of an interface with a path.
abbrev pub ScopesAreKnown : Type 0
ScopesAreKnown = (pieces : List Piece) (x : Followed) → IsFollowed pieces x → (facts : List Fact) → AreKnown x facts → (m : ℕ) (w : NumberedScope)
    → slice_get (scopes_in x) m ≡ Some w
    → ScopeStands (tables_of x) (known_by facts) w × AllByRecursion (IsKnownSight (tables_of x) (known_by facts)) (sights_of_scope (tables_of x) w)

-- A view that is over a place with a path, and other places with one, is known.
abbrev pub ViewsAreKnown : Type 0
ViewsAreKnown = (pieces : List Piece) (x : Followed) → IsFollowed pieces x → (facts : List Fact) → AreKnown x facts → (place : ℕ) → HasPath (tables_of x) place
    → (v : NumberedView) → IsPlacedView (tables_of x) place v → (whole : Bool)
    → IsKnownSight (tables_of x) (known_by facts) (record { place = place; view = v; whole = whole })
