-- The types of a plan of what was read, whole: they are those of a plan that was read, and marks tell which are resources
-- (WIT.md, "Types"; Component Model WIT.md, "Package Format").
use Rattle.std.specs.Prelude.{◌≡◌, ℕ, Bool, true, List, Some, slice_get}
use Rattle.std.specs.List.{AllZip, flat_map}
use Rattle.wit_model.specs.declared.model.TypeOwner.{TypeOwner}
use Rattle.wit_model.specs.Text.{Text}
use Rattle.read_shown.specs.Kinds.{NamesHaveKinds}
use Rattle.plan_meaning.specs.{FollowedNumbers.AreMembersIn, NumberedMembers.Homes, NumberedMembers.HomesStand, NumberedMembers.IsMember, Shapes.named_shape}
use Rattle.plan_meaning.specs.{KeptTypes.TypesAreKept, NumberedViews.AreTables, NumberedViews.Tables, NumberedViews.place_at, Plan.Plan, Plan.place_in}
use Rattle.plan_parts.specs.{Kept.AreMarked, Marks.is_marked}
use Rattle.read_exports.specs.declared.members.Member.{Member}
use Rattle.read_exports.specs.Members.{numbered_members}
use Rattle.plan_types.specs.{FirstShown.first_showing, Showings.showings_of_members, Showings.signatures_of_members, Used.used_parts, Used.AreUsed}
use Rattle.plan_types.specs.PlannedTypes.{PlansType}
use Rattle.plan_type_laws.specs.{FormsObeyed.LengthsFit, ShownMarks.ArePlaced, ShownMarks.MarksStand, MembersStand.MembersStand}
use Rattle.comp_meaning.specs.Reads as reads
use Rattle.plan_meaning.specs.KeptResources as resources

-- What is exported at the top, in numbers and in trees: it is well-formed, each name is a resource or isn't wherever it is met, and the views of
-- interfaces may be ones.
pub record IsFollowed (t : Tables) (h : Homes) (ms : List Member) (members : List reads.Member) : Type 0 where
  pub tables : AreTables t
  pub lengths : LengthsFit t
  pub homes : HomesStand t h
  pub shown : AllZip (IsMember t h) (numbered_members ms) members
  pub stand : MembersStand members
  pub kinds : NamesHaveKinds members
  pub interfaces : reads.are_interfaces (flat_map reads.sights members) ≡ true
  pub numbers : AreMembersIn t (numbered_members ms)
  pub placed : ArePlaced t ms

-- The types that are used are kept and planned, each as it is shown first, and each name that is used is of a place that is its owner's.
pub record TypesArePlanned (t : Tables) (ms : List Member) (kept : List ℕ) (p : Plan) (owners : ℕ → TypeOwner) : Type 0 where
  pub marks : List Bool
  pub used : AreUsed t (used_parts t (showings_of_members ms) (signatures_of_members ms)) marks
  pub marked : AreMarked marks kept
  pub types : AllZip (PlansType t kept (λ n. first_showing n (showings_of_members ms)) owners) kept p.types
  pub places : (n q : ℕ) (name : Text) → is_marked marks n ≡ true → slice_get t.shapes n ≡ Some (named_shape q name) → place_in p (owners q) ≡ place_at t q

-- They are types of a plan that was read, and the marks of what is shown tell which are resources.
pub record TypesAreRead (t : Tables) (ms : List Member) (kept : List ℕ) (p : Plan) : Type 0 where
  pub types : TypesAreKept t kept p
  pub told : MarksStand t (showings_of_members ms) (signatures_of_members ms)
  pub marked : resources.AreMarked t kept p told.marks

abbrev pub PlannedTypesAreRead : Type 0
PlannedTypesAreRead = (t : Tables) (h : Homes) (ms : List Member) (members : List reads.Member) → IsFollowed t h ms members
    → (kept : List ℕ) (p : Plan) (owners : ℕ → TypeOwner) → TypesArePlanned t ms kept p owners → TypesAreRead t ms kept p
