-- The types of a plan that were made of those that are used.
use Rattle.std.proofs.Common.{◌≡◌, sym, ap, subst, ◌∙◌, ℕ, Bool, true, List, length, Option, Some, None, slice_get}
use Rattle.std.proofs.{ByRecursion.All-weaker as recursion_weaker, lemmas.Option.same_Some as same-some, lemmas.Slice.Zip.AllZip-long as zip_length}
use Rattle.std.specs.List.{AllByRecursion, AllZip}
use Rattle.wit_model.specs.declared.model.TypeOwner.{TypeOwner}
use Rattle.wit_model.specs.Text.{Text}
use Rattle.plan_meaning.proofs.ShapeLaws.{form_back}
use Rattle.plan_meaning.specs.{GatheredPlan.Becomes, Plan.Plan, Plan.PlannedType, Plan.formed, Plan.place_in, PlanRules.is_form, KeptTypes.IsKeptType, KeptTypes.declared, KeptTypes.unnamed as kept_unnamed, NumberedRules.name_at, NumberedRules.name_in, NumberedViews.AreTables, NumberedViews.Tables, Shapes.Shape, Shapes.IsShape, Shapes.a_name, Shapes.a_node, Shapes.named_shape}
use Rattle.plan_parts.proofs.DeclaredKinds.{kinds_declared, parts_become}
use Rattle.plan_parts.specs.{Kept.AreMarked, Kinds.shape_form, Marks.is_marked}
use Rattle.plan_types.specs.{PlannedTypes.PlansType, PlannedTypes.named, PlannedTypes.unnamed, Showings.NumberedShowing, Used.used_parts, Used.AreUsed}
use Rattle.plan_type_laws.proofs.{ShownRules.kept_forms, ShownRules.mark_there, UsedWalk.unnamed_node, UsedParts.used_are_fine}
use Rattle.plan_type_laws.specs.{PlanTypes.NamesObey, PlanTypes.PlannedTypesAreKept, UsedParts.ShowingObeys, UsedParts.SignatureObeys}
use Rattle.base_lemmas.proofs.Elements.{zip_at_right as zip_get}

no_some : {A : Type 0} {B : Type 0} (x : A) → None ≡ Some x → B
no_some x e = let wrong : ⊥ = cc in absurd wrong

module _ (t : Tables) (tables : AreTables t) (showings : List NumberedShowing) (shown : AllByRecursion (ShowingObeys t) showings) (signatures : List ℕ)
    (called : AllByRecursion (SignatureObeys t) signatures) (marks : List Bool) (used : AreUsed t (used_parts t showings signatures) marks) (kept : List ℕ) (are : AreMarked marks kept) (p : Plan)
    (owners : ℕ → TypeOwner) (find : ℕ → Option NumberedShowing) (many : length p.types ≡ length kept) (names : NamesObey t p owners find marks) where
  one_kept : (n : ℕ) (x : PlannedType) → is_marked marks n ≡ true → PlansType t kept find owners n x → IsKeptType t kept p n x
  one_kept n x mark (unnamed s at no_name a b c formed_so) = by (tables.shapes.each n s at)
    where
      by : IsShape n s → IsKeptType t kept p n x
      by (a_name q name e) = no_some (q, name) (sym no_name ∙ ap name_in e)
      by (a_node form olds e below) =
          let fine = used_are_fine t tables showings shown signatures called marks used n s mark at no_name in
          kept_unnamed fine.place form olds formed_so.news (at ∙ ap Some e) (subst (λ ks. AllZip (Becomes t kept p) ks formed_so.news) (ap (λ (s : Shape). s.parts) e)
          (parts_become t tables kept p many s.parts formed_so.news formed_so.parts))
          a b (formed_so.is ∙ ap (λ f. formed f formed_so.news) (ap shape_form e ∙ form_back form)) fine.part fine.shallow
  one_kept n x mark (named s q name y at is first a b c kind) = by (tables.shapes.each n s at)
    where
      by : IsShape n s → IsKeptType t kept p n x
      by (a_node form olds e below) = no_some (q, name) (sym (unnamed_node form olds) ∙ (sym (ap name_in e) ∙ is))
      by (a_name r other e) =
          let there : slice_get t.shapes n ≡ Some (named_shape q name) = at ∙ ap Some (e ∙ ap (λ (z : ℕ × Text). named_shape z.0 z.1) (same-some (r, other) (q, name) (sym (ap name_in e) ∙ is))) in
          let obeys = names n q name y mark there first in
          declared q name y.declared there a (ap (place_in p) b ∙ obeys.home) (kinds_declared t tables kept p many y.declared x.kind kind) obeys.behind obeys.label obeys.obeys

name_shown : (t : Tables) (xs : List NumberedShowing) → AllByRecursion (ShowingObeys t) xs → AllByRecursion (λ (s : NumberedShowing). (x : ℕ × Text) × (name_at t s.part ≡ Some x)) xs
name_shown t xs all = recursion_weaker (ShowingObeys t) (λ (s : NumberedShowing). (x : ℕ × Text) × (name_at t s.part ≡ Some x)) (λ x obeys. (obeys.name, obeys.is)) xs all

pub types_are_kept : PlannedTypesAreKept
types_are_kept t tables showings shown signatures called obey marks used kept are p owners find finds types names = record {
  forms = λ n form parts is at. kept_forms t tables (λ f ps. is_form f ps ≡ true) showings (name_shown t showings shown) signatures obey marks used kept are p owners find finds types n form
      parts is at;
  rise = are.rise;
  once = are.once;
  each = λ j x e.
      let found = zip_get (PlansType t kept find owners) kept p.types types j x e in (
        found.0,
        found.1,
        one_kept t tables showings shown signatures called marks used kept are p owners find (zip_length (PlansType t kept find owners) kept p.types types) names found.0 x
            (mark_there marks found.0 (are.among j found.0 found.1)) found.2,
      );
}
