-- The functions of an interface that obeys the rules, as those of a plan.
use Rattle.std.proofs.Common.{rules as std_rules, ◌≡◌, refl, subst, ℕ, zero, suc, ◌+◌, Bool, true, false, ◌&&◌, ◌||◌, cond, List, [], ◌∷◌, ◌++◌, length, map, Option, Some, slice_get}
use Rattle.std.proofs.lemmas.Slice.Eq.{bytes_eq-Decides}
use Rattle.std.specs.List.{AllZip, list_all, list_any}
use Rattle.wit_model.specs.declared.model.{TypeId.TypeId, TypeOwner.TypeOwner}
use Rattle.wit_model.specs.Text.{Text, text_eq}
use Rattle.comp_meaning.specs.Rules.{distinct}
use Rattle.plan_meaning.specs.{GatheredPlan.FunctionListed, KeptFunctions.IsKindOf, KeptFunctions.IsResource, Plan.Plan, Plan.PlannedFunction}
use Rattle.plan_meaning.specs.NumberedRules.{Fact, is_function, is_no_part, is_type, resources_of}
use Rattle.plan_meaning.specs.{NumberedViews.NumberedFunction, NumberedViews.NumberedType, NumberedViews.Tables, NumberedViews.function_at, Renumbering.IsPart}
use Rattle.plan_parts.specs.Interfaces.{slot_part, AreResources, IsPlannedFunction, FunctionsAreListed}
use Rattle.plan_parts.proofs.FunctionLaws.{functions_become, kinds_are_named}
use Rattle.base_lemmas.proofs.Bools.{left_of as first_true, right_of as second_true}

-- a resource by its name among the types
record IsListed (xs : List NumberedType) (r : Text) : Type 0 where
  number : ℕ
  x : NumberedType
  there : slice_get xs number ≡ Some x
  is_resource : is_no_part x.declared ≡ true
  named : r ≡ x.name

later : (y : NumberedType) (ys : List NumberedType) (r : Text) → IsListed ys r → IsListed (y ∷ ys) r
later y ys r at = record { number = suc at.number; x = at.x; there = at.there; is_resource = at.is_resource; named = at.named }

or_later : (y : NumberedType) (ys : List NumberedType) (r : Text) (rest : list_any (text_eq r) (resources_of ys) ≡ true → IsListed ys r) (b : Bool) → text_eq r y.name ≡ b
    → is_no_part y.declared ≡ true → (b || list_any (text_eq r) (resources_of ys)) ≡ true → IsListed (y ∷ ys) r
or_later y ys r rest true e none h = record { number = zero; x = y; there = refl; is_resource = none; named = (bytes_eq-Decides r y.name).0 e }
or_later y ys r rest false e none h = later y ys r (rest h)

first_or_later : (y : NumberedType) (ys : List NumberedType) (r : Text) (rest : list_any (text_eq r) (resources_of ys) ≡ true → IsListed ys r) (b : Bool) → is_no_part y.declared ≡ b
    → list_any (text_eq r) (cond b (y.name ∷ resources_of ys) (resources_of ys)) ≡ true → IsListed (y ∷ ys) r
first_or_later y ys r rest x e h = search (std_rules, or_later, later)

listed : (xs : List NumberedType) (r : Text) → list_any (text_eq r) (resources_of xs) ≡ true → IsListed xs r
listed [] r h = absurd cc
listed (y ∷ ys) r h = first_or_later y ys r (listed ys r) (is_no_part y.declared) refl h

module _ (t : Tables) (known : ℕ → Fact) (kept : List ℕ) (p : Plan) (many : length p.types ≡ length kept) (o : TypeOwner) (q : ℕ) (types : List NumberedType) (find : Text → Option TypeId)
    (have : AreResources kept types find) (stand : (n : ℕ) (x : NumberedType) (id : TypeId) → slice_get types n ≡ Some x → is_no_part x.declared ≡ true → IsPart kept (slot_part x.slot) (14 + id.0)
    → IsResource t known kept p o q x.name id.0) where
  abbrev Kind : Text × NumberedFunction → Text × PlannedFunction → Type 0
  Kind f e = IsKindOf t known kept p o q f.0 (function_at t f.1.signature) e.1.kind

  finds : (r : Text) → list_any (text_eq r) (resources_of types) ≡ true → (id : TypeId) × (find r ≡ Some id)
  finds r h = search (std_rules, listed types r h)

  are : (r : Text) (id : TypeId) → find r ≡ Some id → IsResource t known kept p o q r id.0
  are r id e =
      let at = have.among r id e in
      subst (λ (name : Text). IsResource t known kept p o q name id.0) at.4 (stand at.0 at.1 id at.2 at.3 at.5)

  one : (f : Text × NumberedFunction) (e : Text × PlannedFunction) → is_function t known q (resources_of types) f.0 (function_at t f.1.signature) ≡ true → IsPlannedFunction t kept find f e
      → FunctionListed t kept p f e × Kind f e
  one f e obeys is =
      let kind = kinds_are_named t known kept p o q find (resources_of types) finds are f.0 (function_at t f.1.signature) e.1.kind obeys is.kind in
      ((is.under, functions_become t kept p many (function_at t f.1.signature) f.1.external_id e.1 is.parts kind.1 is.same_id), kind.0)

  pub each_function : (fs : List (Text × NumberedFunction)) (es : List (Text × PlannedFunction))
      → list_all (λ f. is_function t known q (resources_of types) f.0 (function_at t f.1.signature)) fs ≡ true → AllZip (IsPlannedFunction t kept find) fs es
      → AllZip (FunctionListed t kept p) fs es × AllZip Kind fs es
  each_function [] [] obeys h = (tt, tt)
  each_function [] (e ∷ es) obeys h = absurd h
  each_function (f ∷ fs) [] obeys h = absurd h
  each_function (f ∷ fs) (e ∷ es) obeys h =
      let first = one f e (first_true (is_function t known q (resources_of types) f.0 (function_at t f.1.signature))
      (list_all (λ g. is_function t known q (resources_of types) g.0 (function_at t g.1.signature)) fs) obeys) h.0 in
      let rest = each_function fs es (second_true (is_function t known q (resources_of types) f.0 (function_at t f.1.signature))
      (list_all (λ g. is_function t known q (resources_of types) g.0 (function_at t g.1.signature)) fs) obeys) h.1 in
      ((first.0, rest.0), (first.1, rest.1))

middle_true : (a b c : Bool) → (a && b && c) ≡ true → b ≡ true
middle_true x b c h = search std_rules

pub functions_are_listed : FunctionsAreListed
functions_are_listed t known kept p many o q v obeys find have stand es planned = each_function t known kept p many o q v.types find have stand v.functions es
    (middle_true (list_all (is_type t known q) v.types) (list_all (λ f. is_function t known q (resources_of v.types) f.0 (function_at t f.1.signature)) v.functions)
    (distinct (map (λ x. x.name) v.types ++ map (λ f. f.0) v.functions)) obeys) planned
