-- The interfaces of a plan.
use Rattle.std.proofs.Common.{rules as std_rules, ◌≡◌, refl, sym, ap, subst, ◌∙◌, ℕ, ◌+◌, ◌<◌, Bool, true, false, ◌==◌, cond, List, [], ◌∷◌, ◌++◌, map, take, length, get_or, Bor, Option, Some, None, Result, IfOk, is_some}
use Rattle.std.proofs.lemmas.{Bool.eqb-true, List.map-append, List.take_more, Option.same_Some as same-some}
use Rattle.std.specs.{List.AllByRecursion, List.AllZip, Option.option_map_or}
use Rattle.wit_model.proofs.Elements.{zip-push}
use Rattle.wit_model.specs.declared.model.TypeId.{TypeId}
use Rattle.wit_model.specs.Text.{Text}
use Rattle.plan_build.specs.declared.plan.PlannedInterface.{PlannedInterface as CodeInterface}
use Rattle.plan_build.specs.PlanOf.{stated_interface, stated_number}
use Rattle.plan_parts.specs.Interfaces.{ListsType}
use Rattle.read_rules.specs.declared.sights.Sight.{Sight}
use Rattle.read_rules.specs.Sights.{numbered_sight}
use Rattle.plan_meaning.specs.GatheredPlan.{functions_seen}
use Rattle.plan_meaning.specs.NumberedViews.{NumberedFunction, NumberedSight, NumberedType, NumberedView, Tables, first_at, first_whole_at}
use Rattle.plan_package.specs.WholeInterfaces.{AreSeen, Home, ListsNumber, PlansInterface, PlansPlace}
use Rattle.base_lemmas.proofs.Numbers.{turned as flip}

pub numbers_listed : (kept : List ℕ) (xs : List NumberedType) (es : List (Bor Text × TypeId)) → AllZip (ListsType kept) xs (map stated_number es)
    → AllZip (ListsNumber kept) xs (map (λ (e : Bor Text × TypeId). (e.0.now, e.1.0)) es)
numbers_listed kept [] [] all = tt
numbers_listed kept [] (e ∷ es) all = absurd all
numbers_listed kept (x ∷ xs) [] all = absurd all
numbers_listed kept (x ∷ xs) (e ∷ es) all = ((all.0.0, all.0.1), numbers_listed kept xs es all.1)

-- ---- the first views of a place

functions_of_first : (p : ℕ) (seen : List NumberedSight) → option_map_or (λ (s : NumberedSight). s.view.functions) (first_whole_at p seen) [] ≡ functions_seen p seen
functions_of_first p [] = refl
functions_of_first p (s ∷ rest) = search (std_rules, flip, functions_of_first p rest)

module _ (t : Tables) (kept : List ℕ) (main : ℕ) (homes : ℕ → Option Home) (seen : List NumberedSight) (p : ℕ) where
  pub place_planned : {E : Type 0} (r : Result CodeInterface E) (home : Option Home) (v : NumberedView) (fs : List (Text × NumberedFunction)) (s : NumberedSight) → home ≡ homes p
      → first_at p seen ≡ Some s → s.view ≡ v → fs ≡ option_map_or (λ (s : NumberedSight). s.view.functions) (first_whole_at p seen) []
      → IfOk r (λ i. PlansInterface t kept main home v fs (stated_interface i)) → IfOk r (λ i. PlansPlace t kept main homes seen p (stated_interface i))
  place_planned y home v fs s at first same functions is = search (std_rules, same-some, functions_of_first)

-- one more of two lists that go together
pub zip_more : {A B C : Type 0} (P : A → C → Type 0) (h : B → C) (xs : List A) (i : ℕ) (d : A) → i < length xs → (old new : List B) (y : B) → new ≡ old ++ y ∷ [] → P (get_or xs i d) (h y)
    → AllZip P (take i xs) (map h old) → AllZip P (take (i + 1) xs) (map h new)
zip_more {A = A} P h xs i d within old new y added is before = subst (λ (ns : List A). AllZip P ns (map h new)) (sym (take_more xs i d within))
    (subst (AllZip P (take i xs ++ get_or xs i d ∷ [])) (sym (ap (map h) added ∙ map-append h old (y ∷ []))) (zip-push P (take i xs) (map h old) (get_or xs i d) (h y) before is))

-- ---- places that were seen

pub is_there : {A : Type 0} (o : Option A) → is_some o ≡ true → o ≡ None → ⊥
is_there y seen e = search std_rules

seen_below : (n p : ℕ) (sights : List Sight) → AllByRecursion (λ (s : Sight). s.place < n) sights → is_some (first_at p (map numbered_sight sights)) ≡ true → p < n
seen_below n p [] all seen = let wrong : false ≡ true = seen in absurd cc
seen_below n p (s ∷ rest) all seen = by (p == s.place) refl (seen_below n p rest all.1) seen
  where
    by : (b : Bool) → (p == s.place) ≡ b → (is_some (first_at p (map numbered_sight rest)) ≡ true → p < n)
        → is_some (cond b (Some (numbered_sight s)) (first_at p (map numbered_sight rest))) ≡ true → p < n
    by true e later seen = subst (λ (q : ℕ). q < n) (sym (eqb-true p s.place e)) all.0
    by false e later seen = later seen

pub all_below : (n : ℕ) (sights : List Sight) (places : List ℕ) → AllByRecursion (λ (s : Sight). s.place < n) sights → AreSeen (map numbered_sight sights) places
    → AllByRecursion (λ (p : ℕ). p < n) places
all_below n sights [] all seen = tt
all_below n sights (p ∷ places) all seen = (seen_below n p sights all seen.0, all_below n sights places all seen.1)
