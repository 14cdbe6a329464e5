-- Kinds of types as the plan's types declare them.
use Rattle.std.proofs.Common.{rules as std_rules, ◌≡◌, sym, ap, subst, ◌∙◌, ℕ, ◌+◌, true, false, not, ◌==◌, List, [], ◌∷◌, length, Option, Some, slice_get}
use Rattle.std.specs.{List.AllZip, Option.option_map_or}
use Rattle.plan_meaning.proofs.ShapeLaws.{form_back}
use Rattle.plan_meaning.specs.GatheredPlan.{Becomes, DeclaresKind, a_resource as declares_resource, a_name as declares_name, a_form as declares_form}
use Rattle.plan_meaning.specs.{NumberedRules.shape_at, Plan.Plan, Plan.PlannedKind, Plan.formed as formed_kind, Renumbering.IsPart}
use Rattle.plan_meaning.specs.{NumberedViews.AreTables, NumberedViews.Tables, Shapes.Shape, Shapes.IsShape, Shapes.a_name as is_name, Shapes.a_node as is_node}
use Rattle.plan_parts.specs.Kinds.{shape_form, IsFormed, IsKindFor, KindsAreDeclared, a_form, a_name, a_resource}
use Rattle.plan_parts.proofs.FunctionLaws.{part_becomes}

module _ (t : Tables) (tables : AreTables t) (kept : List ℕ) (p : Plan) (many : length p.types ≡ length kept) where
  pub parts_become : (olds news : List ℕ) → AllZip (IsPart kept) olds news → AllZip (Becomes t kept p) olds news
  parts_become [] [] all = tt
  parts_become [] (n ∷ news) all = absurd all
  parts_become (o ∷ olds) [] all = absurd all
  parts_become (o ∷ olds) (n ∷ news) all = (part_becomes t kept p many o n all.0, parts_become olds news all.1)

  shape_number : (k : ℕ) (s : Shape) → shape_at t k ≡ Some s → (n : ℕ) × (k ≡ 14 + n) × (slice_get t.shapes n ≡ Some s)
  shape_number k s at = search std_rules

  form_declared : (d : Option ℕ) (kind : PlannedKind) (old n : ℕ) (s : Shape) → d ≡ Some old → old ≡ 14 + n → slice_get t.shapes n ≡ Some s → not (s.sort == 0) ≡ true → IsFormed kept s kind
      → IsShape n s → DeclaresKind t kept p d kind
  form_declared d kind old n s at is there form formed (is_name place name e) = let wrong : true ≡ false = sym form ∙ ap (λ (s : Shape). not (s.sort == 0)) e in absurd cc
  form_declared d kind old n s at is there form formed (is_node f parts e below) =
      declares_form old n f parts formed.news at is (there ∙ ap Some e) (subst (λ ks. AllZip (Becomes t kept p) ks formed.news) (ap (λ (s : Shape). s.parts) e)
      (parts_become s.parts formed.news formed.parts)) (formed.is ∙ ap (λ g. formed_kind g formed.news) (ap shape_form e ∙ form_back f))

  pub kinds_declared : (d : Option ℕ) (kind : PlannedKind) → IsKindFor t kept d kind → DeclaresKind t kept p d kind
  kinds_declared d kind (a_resource none is) = declares_resource none is
  kinds_declared d kind (a_name old new at fails part is) = declares_name old new at fails (part_becomes t kept p many old new part) is
  kinds_declared d kind (a_form old s at form shape formed) =
      let n = shape_number old s shape in
      form_declared d kind old n.0 s at n.1 n.2 (sym (ap (λ o. option_map_or (λ (s : Shape). not (s.sort == 0)) o false) shape) ∙ form) formed (tables.shapes.each n.0 s n.2)

pub kinds_are_declared : KindsAreDeclared
kinds_are_declared t tables kept p many d kind is = kinds_declared t tables kept p many d kind is
