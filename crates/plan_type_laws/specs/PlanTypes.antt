-- The types of a plan that were made of those that are used, where what is shown obeys the rules (WIT.md, "Types").
use Rattle.std.specs.Prelude.{◌≡◌, ◌<◌, ◌+◌, ℕ, Bool, true, List, Option, Some, slice_get}
use Rattle.std.specs.List.{AllByRecursion, AllZip}
use Rattle.wit_model.specs.declared.model.TypeOwner.{TypeOwner}
use Rattle.wit_model.specs.{Names.is_label, Text.Text}
use Rattle.plan_meaning.specs.{KeptTypes.TypesAreKept, Plan.Plan, Plan.place_in, Shapes.named_shape}
use Rattle.plan_meaning.specs.NumberedViews.{AllOf, AreTables, Tables, declaration_of, place_at}
use Rattle.plan_parts.specs.{Kept.AreMarked, Marks.is_marked}
use Rattle.plan_types.specs.{PlannedTypes.PlansType, Showings.NumberedShowing, Used.used_parts, Used.AreUsed}
use Rattle.plan_type_laws.specs.{ShownForms.FindsShown, ShownForms.FormsObey, UsedParts.ShowingObeys, UsedParts.SignatureObeys}
use Rattle.comp_meaning.specs.Rules as rules

-- A name is a label. It is shown as what may be declared in its place, which is its owner's, and stands behind that.
pub record NameObeys (t : Tables) (p : Plan) (owners : ℕ → TypeOwner) (n q : ℕ) (name : Text) (s : NumberedShowing) : Type 0 where
  pub label : is_label name ≡ true
  pub behind : AllOf (λ k. k < 14 + n) s.declared
  pub obeys : rules.is_declared (place_at t q) (declaration_of t s.declared) ≡ true
  pub home : place_in p (owners q) ≡ place_at t q

-- each name that is used does
abbrev pub NamesObey : Tables → Plan → (ℕ → TypeOwner) → (ℕ → Option NumberedShowing) → List Bool → Type 0
NamesObey t p owners find marks = (n q : ℕ) (name : Text) (s : NumberedShowing) → is_marked marks n ≡ true → slice_get t.shapes n ≡ Some (named_shape q name)
    → find n ≡ Some s → NameObeys t p owners n q name s

-- Types that are made so of the types that are used are those of a plan that was read.
abbrev pub PlannedTypesAreKept : Type 0
PlannedTypesAreKept = (t : Tables) → AreTables t → (showings : List NumberedShowing) → AllByRecursion (ShowingObeys t) showings → (signatures : List ℕ)
    → AllByRecursion (SignatureObeys t) signatures → FormsObey t showings signatures
    → (marks : List Bool) → AreUsed t (used_parts t showings signatures) marks → (kept : List ℕ) → AreMarked marks kept
    → (p : Plan) (owners : ℕ → TypeOwner) (find : ℕ → Option NumberedShowing) → FindsShown showings find
    → AllZip (PlansType t kept find owners) kept p.types → NamesObey t p owners find marks → TypesAreKept t kept p
