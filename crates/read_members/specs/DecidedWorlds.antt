-- What the pieces of an input mean as one world, by what was read of its one member (Component Model WIT.md, "Package Format").
use Rattle.std.specs.Prelude.{◌≡◌, ℕ, List, [], ◌∷◌, map, slice_get, Option, Some, None}
use Rattle.wit_model.specs.Names.{PackageIdentity}
use Rattle.comp_bytes.specs.Levels.{Piece}
use Rattle.comp_meaning.specs.{ByLevels.world_of_pieces, Follow.Scope, Follow.provided}
use Rattle.plan_meaning.specs.NumberedMembers.{Homes, HomesStand, NumberedMember, NumberedPart, interface, is_one_world, world, world_shown}
use Rattle.plan_meaning.specs.{NumberedRules.Fact, NumberedViews.Tables, NumberedWorlds.NumberedScope, NumberedWorlds.Shows}
use Rattle.read_parts.specs.declared.following.Followed.{Followed}
use Rattle.read_parts.specs.Input.{IsFollowed}
use Rattle.read_rules.specs.declared.tables.Fact.{Fact as KeptFact}
use Rattle.read_numbers.specs.{FactLaws.known_by, KnownScopes.AreKnown, NumberedInput.tables_of}
use Rattle.read_members.specs.ReadMembers.{AreRead}

-- The pieces mean the one world that the member shows, if that stands by itself.
pub record IsWorldDecided (pieces : List Piece) (t : Tables) (h : Homes) (known : ℕ → Fact) (m : NumberedMember) (w : NumberedScope) : Type 0 where
  pub identity : PackageIdentity
  pub at : slice_get h.packages m.package_ ≡ Some identity
  pub scope : Scope
  pub shown : Shows t w scope
  pub decided : world_of_pieces pieces ≡ provided (is_one_world t h known m.package_ m.label w) (world_shown identity m.label scope)

-- an interface is none
abbrev pub IsPartDecided : List Piece → Tables → Homes → (ℕ → Fact) → NumberedMember → NumberedPart → Type 0
IsPartDecided pieces t h known m (world w) = IsWorldDecided pieces t h known m w
IsPartDecided pieces t h known m (interface p v imports) = world_of_pieces pieces ≡ None

-- there is one member
abbrev pub AreWorldDecided : List Piece → Tables → Homes → (ℕ → Fact) → List NumberedMember → Type 0
AreWorldDecided pieces t h known [] = world_of_pieces pieces ≡ None
AreWorldDecided pieces t h known (m ∷ []) = IsPartDecided pieces t h known m m.part
AreWorldDecided pieces t h known (m ∷ n ∷ ms) = world_of_pieces pieces ≡ None

-- Members that are read decide what the pieces mean as one world.
abbrev pub WorldsAreDecided : Type 0
WorldsAreDecided = (pieces : List Piece) (x : Followed) → IsFollowed pieces x → (facts : List KeptFact) → AreKnown x facts → (h : Homes)
    → HomesStand (tables_of x) h → (ms : List (NumberedMember × List (Option ℕ)))
    → AreRead (tables_of x) (known_by facts) h x.members.items ms → AreWorldDecided pieces (tables_of x) h (known_by facts) (map (λ m. m.0) ms)
