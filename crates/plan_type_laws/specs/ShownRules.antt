-- What is shown of what was read obeys the rules (WIT.md, "Types" and "Functions"; Component Model WIT.md, "Package Format").
use Rattle.std.specs.Prelude.{◌≡◌, ◌<◌, ◌+◌, ℕ, Bool, true, List, Option, Some, slice_get}
use Rattle.std.specs.List.{AllByRecursion, AllZip, flat_map}
use Rattle.wit_model.specs.declared.model.TypeOwner.{TypeOwner}
use Rattle.wit_model.specs.{Names.is_label, Text.Text}
use Rattle.plan_meaning.specs.{FollowedNumbers.AreMembersIn, NumberedMembers.Homes, NumberedMembers.HomesStand, NumberedMembers.IsMember, Shapes.named_shape}
use Rattle.plan_meaning.specs.NumberedViews.{AllOf, AreTables, Tables, declaration_of, place_at}
use Rattle.plan_meaning.specs.Plan.{Plan, place_in}
use Rattle.plan_parts.specs.Marks.{is_marked}
use Rattle.read_exports.specs.declared.members.Member.{Member}
use Rattle.read_exports.specs.Members.{numbered_members}
use Rattle.plan_types.specs.Showings.{NumberedShowing, showings_of_members, signatures_of_members}
use Rattle.plan_type_laws.specs.PlanTypes.{NamesObey}
use Rattle.plan_type_laws.specs.{ShownForms.FindsShown, ShownMarks.PartNames, UsedParts.ShowingObeys, UsedParts.SignatureObeys, MembersStand.MembersStand}
use Rattle.comp_meaning.specs.Reads as reads
use Rattle.comp_meaning.specs.Rules as rules

-- A type that is shown is a name of its place, a label, and stands behind what it is declared as, which is what may be declared there.
pub record ShowingIsName (t : Tables) (s : NumberedShowing) : Type 0 where
  pub number : ℕ
  pub home : ℕ
  pub name : Text
  pub part : s.part ≡ 14 + number
  pub there : slice_get t.shapes number ≡ Some (named_shape home name)
  pub behind : AllOf (λ k. k < 14 + number) s.declared
  pub label : is_label name ≡ true
  pub obeys : rules.is_declared (place_at t home) (declaration_of t s.declared) ≡ true

-- each type and each function that is shown obeys the rules
pub record RulesHold (t : Tables) (showings : List NumberedShowing) (signatures : List ℕ) : Type 0 where
  pub names : AllByRecursion (ShowingIsName t) showings
  pub declared : AllByRecursion (ShowingObeys t) showings
  pub called : AllByRecursion (SignatureObeys t) signatures

-- Where the parts at the top are well-formed, and the views of interfaces may be ones, all that they show obeys the rules.
abbrev pub ShownObeysRules : Type 0
ShownObeysRules = (t : Tables) → AreTables t → (h : Homes) → HomesStand t h → (ms : List Member) (members : List reads.Member)
    → AllZip (IsMember t h) (numbered_members ms) members → MembersStand members
    → reads.are_interfaces (flat_map reads.sights members) ≡ true → AreMembersIn t (numbered_members ms)
    → AllByRecursion (λ (m : Member). PartNames t m.part) ms → RulesHold t (showings_of_members ms) (signatures_of_members ms)

-- Then each name that is used obeys them too, where its place is its owner's.
abbrev pub NamesObeyRules : Type 0
NamesObeyRules = (t : Tables) → AreTables t → (showings : List NumberedShowing) → AllByRecursion (ShowingIsName t) showings
    → (find : ℕ → Option NumberedShowing) → FindsShown showings find
    → (p : Plan) (owners : ℕ → TypeOwner) (marks : List Bool)
    → ((n q : ℕ) (name : Text) → is_marked marks n ≡ true → slice_get t.shapes n ≡ Some (named_shape q name) → place_in p (owners q) ≡ place_at t q)
    → NamesObey t p owners find marks
