-- The resources of a plan, by the marks of what is shown (Explainer.md, "Type Definitions"; WIT.md, "Types").
use Rattle.std.specs.{Prelude.ℕ, Prelude.Bool, Prelude.List, Prelude.Option, List.AllZip}
use Rattle.wit_model.specs.declared.model.TypeOwner.{TypeOwner}
use Rattle.plan_meaning.specs.{NumberedViews.AreTables, NumberedViews.Tables, Plan.Plan}
use Rattle.plan_parts.specs.Kept.{AreMarked}
use Rattle.plan_types.specs.{PlannedTypes.PlansType, Showings.NumberedShowing, Used.used_parts, Used.AreUsed}
use Rattle.plan_type_laws.specs.{ShownForms.FindsShown, ShownMarks.MarksStand}
use Rattle.plan_meaning.specs.KeptResources as resources

-- The marks of what is shown are those of the types that are made of what is used.
abbrev pub MarksAreKept : Type 0
MarksAreKept = (t : Tables) → AreTables t → (showings : List NumberedShowing) (signatures : List ℕ) (m : MarksStand t showings signatures) (marks : List Bool)
    → AreUsed t (used_parts t showings signatures) marks
    → (kept : List ℕ) → AreMarked marks kept → (p : Plan) (owners : ℕ → TypeOwner) (find : ℕ → Option NumberedShowing) → FindsShown showings find
    → AllZip (PlansType t kept find owners) kept p.types
    → resources.AreMarked t kept p m.marks
