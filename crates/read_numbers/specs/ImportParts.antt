-- The parts that types which are imported stand for (Component Model Binary.md, "Import and Export Definitions").
use Rattle.std.specs.Prelude.{◌≡◌, ℕ, ◌+◌, List, map, slice_get, Option, Some, None}
use Rattle.std.specs.List.{AllByRecursion}
use Rattle.wit_model.specs.Text.{Text}
use Rattle.comp_bytes.specs.Levels.{Piece}
use Rattle.plan_meaning.specs.{NumberedViews.NumberedView, NumberedViews.Tables, Shapes.named_shape}
use Rattle.read_rules.specs.declared.scopes.{Seen.Seen, Shown.Shown}
use Rattle.read_rules.specs.Scopes.{numbered_seen}
use Rattle.read_follow.specs.declared.scopes.{Seen.Seen as FollowedSeen, Shown.Shown as FollowedShown}
use Rattle.read_parts.specs.declared.{following.Followed.Followed, members.Member.Member}
use Rattle.read_parts.specs.{Input.IsFollowed, Members.scope_of}
use Rattle.read_numbers.specs.{NumberedInput.tables_of, NumberedParts.numbered_seen as followed_seen}
use Rattle.read_rules.specs.declared.scopes.Shown.TheVariants as shown
use Rattle.read_follow.specs.declared.scopes.Shown.TheVariants as followed

-- the part that the name of a type is, if it is one of a type
abbrev pub type_part : Shown → Option ℕ
type_part (shown.Declares part d) = Some part
type_part (shown.Instance key v) = None
type_part (shown.Function n) = None

abbrev pub followed_part : FollowedShown → Option ℕ
followed_part (followed.Type name part d) = Some part
followed_part (followed.Instance key n) = None
followed_part (followed.Function name f) = None

abbrev pub part_seen : Seen → Option ℕ
part_seen s = type_part s.shown

abbrev pub part_followed : FollowedSeen → Option ℕ
part_followed s = followed_part s.shown

-- a type that is imported is the name in the scope's own place
pub record IsNameOf (t : Tables) (home : ℕ) (name : Text) (part : ℕ) : Type 0 where
  pub number : ℕ
  pub is : part ≡ 14 + number
  pub shape : slice_get t.shapes number ≡ Some (named_shape home name)

abbrev pub IsSeenNamed : Tables → ℕ → Seen → Type 0
IsSeenNamed t home s = (part : ℕ) → part_seen s ≡ Some part → IsNameOf t home s.key.now part

-- Imports of a member that were followed, as they are read: each type is the name under which it is imported.
abbrev pub ImportsAreNamed : Type 0
ImportsAreNamed = (pieces : List Piece) (x : Followed) → IsFollowed pieces x → (m : ℕ) (member : Member) → slice_get x.members.items m ≡ Some member
    → (views : List NumberedView) (all : List Seen)
    → map numbered_seen all ≡ map (followed_seen x.places views) (scope_of member.part).imports.items
    → map part_seen all ≡ map part_followed (scope_of member.part).imports.items
    → AllByRecursion (IsSeenNamed (tables_of x) (scope_of member.part).home) all
