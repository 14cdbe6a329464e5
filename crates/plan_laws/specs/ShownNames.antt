-- Each name that the types of a plan use is shown in its own place (Binary.md, "Index Spaces" and "Import and Export Definitions").
use Rattle.std.specs.Prelude.{◌≡◌, ℕ, ◌+◌, Bool, true, List, Option, Some, slice_get}
use Rattle.std.specs.List.{AllByRecursion, AllZip, Contains}
use Rattle.wit_model.specs.Text.{Text}
use Rattle.plan_meaning.specs.FollowedNumbers.{AreMembersIn, IsNameOf, IsSlotOf}
use Rattle.plan_meaning.specs.NumberedMembers.{Homes, HomesStand, IsMember}
use Rattle.plan_meaning.specs.{NumberedViews.AreTables, NumberedViews.NumberedSight, NumberedViews.NumberedType, NumberedViews.Tables, Shapes.named_shape}
use Rattle.read_rules.specs.declared.scopes.{Scope.Scope, Seen.Seen, Shown.Shown}
use Rattle.plan_parts.specs.Marks.{is_marked}
use Rattle.read_exports.specs.Members.{numbered_members, numbered_part}
use Rattle.read_exports.specs.declared.members.{Member.Member, Part.Part}
use Rattle.plan_type_laws.specs.MembersStand.{MembersStand}
use Rattle.plan_types.specs.{Showings.showings_of_members, Showings.signatures_of_members, Used.used_parts, Used.AreUsed}
use Rattle.plan_package.specs.Views.{views_of_part}
use Rattle.comp_meaning.specs.Reads as reads
use Rattle.read_rules.specs.declared.scopes.Shown.TheVariants as shown
use Rattle.read_exports.specs.declared.members.Part.TheVariants as parts

module _ (t : Tables) where
  -- the part of a type that a world imports is its name
  abbrev pub DeclaresName : ℕ → Seen → Type 0
  DeclaresName home s = of_shown s.shown
    where
      of_shown : Shown → Type 0
      of_shown (shown.Instance key v) = Unit {0}
      of_shown (shown.Function n) = Unit {0}
      of_shown (shown.Declares part d) = (n : ℕ) × (part ≡ 14 + n) × (slice_get t.shapes n ≡ Some (named_shape home s.key.now))

  abbrev pub PartDeclaresNames : Part → Type 0
  PartDeclaresNames (parts.World w) = AllByRecursion (DeclaresName w.home) w.imports.now
  PartDeclaresNames (parts.Interface p v imports) = Unit {0}

  -- ---- where a name is shown

  -- one of these views, of the place, shows the type of this number
  pub record ShowsNumber (views : List NumberedSight) (q n : ℕ) : Type 0 where
    pub sight : NumberedSight
    pub among : Contains views sight
    pub place : sight.place ≡ q
    pub type_ : NumberedType
    pub there : Contains sight.view.types type_
    pub named : IsNameOf t q type_.name type_.declared n
    pub slot : IsSlotOf t type_.slot n

  -- the world imports the type of this number
  pub record ImportsNumber (w : Scope) (n : ℕ) : Type 0 where
    pub seen : Seen
    pub among : Contains w.imports.now seen
    pub declared : Option ℕ
    pub shown : seen.shown ≡ shown.Declares (14 + n) declared
    pub named : IsNameOf t w.home seen.key.now declared n

  -- A part shows the type of this number, which is of the place: by a view of it, or by an import of the world whose place it is.
  pub data IsShownByPart (part : Part) (q n : ℕ) : Type 0 where
    by_view : ShowsNumber (views_of_part (numbered_part part)) q n → IsShownByPart part q n
    by_import : (w : Scope) → part ≡ parts.World w → q ≡ w.home → ImportsNumber w n → IsShownByPart part q n

-- What is exported at the top, in numbers and as it was followed.
pub record IsInput (t : Tables) (h : Homes) (ms : List Member) (members : List reads.Member) : Type 0 where
  pub tables : AreTables t
  pub homes : HomesStand t h
  pub shown : AllZip (IsMember t h) (numbered_members ms) members
  pub stand : MembersStand members
  pub numbers : AreMembersIn t (numbered_members ms)
  pub declared : AllByRecursion (λ (m : Member). PartDeclaresNames t m.part) ms

-- Each name that is used is shown by one of the parts.
abbrev pub UsedNamesAreShown : Type 0
UsedNamesAreShown = (t : Tables) (h : Homes) (ms : List Member) (members : List reads.Member) → IsInput t h ms members → (marks : List Bool)
    → AreUsed t (used_parts t (showings_of_members ms) (signatures_of_members ms)) marks
    → (n q : ℕ) (name : Text) → is_marked marks n ≡ true → slice_get t.shapes n ≡ Some (named_shape q name) → (m : Member) × Contains ms m
    × IsShownByPart t m.part q n
