-- The marks of what is shown are those of the types of a plan.
use Rattle.std.proofs.Common.{rules as std_rules, ◌≡◌, subst, ℕ, ◌+◌, List, Option, Some}
use Rattle.std.proofs.ByRecursion.{All-weaker as recursion_weaker}
use Rattle.wit_model.specs.Text.{Text}
use Rattle.plan_meaning.specs.{GatheredPlan.DeclaresKind, Plan.Plan, Plan.PlannedKind, KeptResources.FormIsMarked, KeptResources.MarkedBy, NumberedRules.name_at, NumberedViews.Tables}
use Rattle.plan_types.specs.Showings.{NumberedShowing}
use Rattle.plan_type_laws.proofs.{ShownRules.kept_forms, ShownRules.shown_kind}
use Rattle.plan_type_laws.specs.{KeptMarks.MarksAreKept, ShownMarks.IsMarkedAs, ShownMarks.MarksStand, ShownMarks.ShowingIsMarked}
use Rattle.base_lemmas.proofs.Elements.{all_at}

module _ (t : Tables) (showings : List NumberedShowing) (signatures : List ℕ) (m : MarksStand t showings signatures) (kept : List ℕ) (p : Plan) where
  kind_marked : (k : ℕ) (d : Option ℕ) (kind : PlannedKind) → IsMarkedAs m.marks k d → DeclaresKind t kept p d kind → MarkedBy t kept p m.marks kind (m.marks k)
  kind_marked k d kind is y = search std_rules

pub marks_kept : MarksAreKept
marks_kept t tables showings signatures m marks used kept are p owners find finds types =
    let named = recursion_weaker (ShowingIsMarked t m.marks) (λ (s : NumberedShowing). (x : ℕ × Text) × (name_at t s.part ≡ Some x)) (λ s is. (is.name, is.is)) showings m.names in
    record {
      primitives = m.primitives;
      forms = λ n form parts is there. (
        m.forms n form parts there,
        kept_forms t tables (FormIsMarked m.marks) showings named signatures m.inner marks used kept are p owners find finds types n form parts is there,
      );
      names = λ j n x q name at stands there.
          let y = shown_kind t tables (FormIsMarked m.marks) showings named signatures m.inner marks used kept are p owners find finds types j n x q name at stands there in
          let found = finds n y.0 y.1 in
          let marked = (all_at (ShowingIsMarked t m.marks) showings m.names y.0 found.0).marked in
          kind_marked t showings signatures m kept p (14 + n) y.0.declared x.kind (subst (λ k. IsMarkedAs m.marks k y.0.declared) found.1 marked) y.2;
    }
