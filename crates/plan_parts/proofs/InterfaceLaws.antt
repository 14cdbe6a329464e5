-- The types and the functions of an interface, one after the other.
use Rattle.std.proofs.Common.{rules as std_rules, ◌≡◌, refl, sym, ap, subst, ◌∙◌, ℕ, zero, suc, ◌+◌, ◌<◌, arith, Bool, true, false, ◌&&◌, inl, inr, cond, List, [], ◌∷◌, ◌++◌, length, map, take, get_or, Option, Some, None, is_some, slice_get}
use Rattle.std.proofs.lemmas.{List.take_more, List.map-append, Slice.Eq.bytes_eq-Decides}
use Rattle.std.specs.List.{AllByRecursion, AllZip}
use Rattle.wit_model.specs.declared.model.TypeId.{TypeId}
use Rattle.wit_model.specs.Text.{Text, text_eq}
use Rattle.wit_model.proofs.Elements.{zip-push}
use Rattle.plan_meaning.specs.{NumberedRules.is_no_part, Plan.PlannedFunction, Renumbering.IsPart}
use Rattle.plan_meaning.specs.NumberedViews.{FunctionShape, NumberedFunction, NumberedType, Tables, function_at}
use Rattle.plan_parts.specs.Functions.{NamesKind, TakesAndGives}
use Rattle.plan_parts.specs.Interfaces.{noted, slot_part, AreResources, IsPlannedFunction}
use Rattle.base_lemmas.proofs.Bools.{left_of as first_true, right_of as second_true}
use Rattle.base_lemmas.proofs.Lists.{at_last as last_is, front_more as front_still, front_or_last}

-- what holds of each, of one of them
pub mapped_at : {A B : Type 0} (P : B → Type 0) (g : A → B) (xs : List A) (i : ℕ) (d : A) → i < length xs → AllByRecursion P (map g xs) → P (g (get_or xs i d))
mapped_at P g [] i d h all = absurd (omega (arith, h))
mapped_at P g (x ∷ xs) zero d h all = all.0
mapped_at P g (x ∷ xs) (suc i) d h all = mapped_at P g xs i d (omega (arith, h)) all.1

-- one more of two lists that go together
pub zip_next : {A B X Y : Type 0} (R : B → Y → Type 0) (g : A → B) (h : X → Y) (xs : List A) (i : ℕ) (d : A) (old new : List X) (y : X) → i < length xs → new ≡ old ++ y ∷ []
    → R (g (get_or xs i d)) (h y) → AllZip R (map g (take i xs)) (map h old) → AllZip R (map g (take (i + 1) xs)) (map h new)
zip_next {B = B} {Y = Y} R g h xs i d old new y within added is before =
    let olds : map g (take (i + 1) xs) ≡ map g (take i xs) ++ g (get_or xs i d) ∷ [] = ap (map g) (take_more xs i d within) ∙ map-append g (take i xs) (get_or xs i d ∷ []) in
    let news : map h new ≡ map h old ++ h y ∷ [] = ap (map h) added ∙ map-append h old (y ∷ []) in
    subst (λ (bs : List B). AllZip R bs (map h new)) (sym olds) (subst (λ (ys : List Y). AllZip R (map g (take i xs) ++ g (get_or xs i d) ∷ []) ys) (sym news)
    (zip-push R (map g (take i xs)) (map h old) (g (get_or xs i d)) (h y) before is))

-- ---- resources

pub noted_now : (d : Option ℕ) (name r : Text) (id : TypeId) (new old : Option TypeId) → is_some d ≡ false → new ≡ cond (text_eq name r) (Some id) old
    → new ≡ cond (is_no_part d && text_eq name r) (Some id) old
noted_now x name r id new old none e = search std_rules

pub no_resources : (kept : List ℕ) (find : Text → Option TypeId) → ((r : Text) → find r ≡ None) → AreResources kept [] find
no_resources kept find none = search std_rules

module _ (kept : List ℕ) (xs : List NumberedType) (find after : Text → Option TypeId) (have : AreResources kept xs find) (x : NumberedType) (id : TypeId)
    (is : IsPart kept (slot_part x.slot) (14 + id.0)) (adds : (r : Text) → after r ≡ noted x id r (find r)) where
  still_found : (name : Text) (before : (k : TypeId) × (find name ≡ Some k)) (b : Bool) → (is_no_part x.declared && text_eq x.name name) ≡ b → (k : TypeId) × (after name ≡ Some k)
  still_found name before x e = search std_rules

  own_found : is_no_part x.declared ≡ true → (k : TypeId) × (after x.name ≡ Some k)
  own_found none = search (std_rules, bytes_eq-Decides x.name x.name)

  abbrev From : Text → TypeId → Type 0
  From r k = (n : ℕ) × (y : NumberedType) × (slice_get (xs ++ x ∷ []) n ≡ Some y) × (is_no_part y.declared ≡ true) × (y.name ≡ r) × IsPart kept (slot_part y.slot) (14 + k.0)

  from_which : (r : Text) (k : TypeId) → after r ≡ Some k → (b : Bool) → (is_no_part x.declared && text_eq x.name r) ≡ b → From r k
  from_which r k e true own =
      let this : Some id ≡ Some k = sym (adds r ∙ ap (λ v. cond v (Some id) (find r)) own) ∙ e in
      let same : id ≡ k = cc in (
        length xs,
        x,
        last_is xs x,
        first_true (is_no_part x.declared) (text_eq x.name r) own,
        (bytes_eq-Decides x.name r).0 (second_true (is_no_part x.declared) (text_eq x.name r) own),
        subst (λ (j : TypeId). IsPart kept (slot_part x.slot) (14 + j.0)) same is,
      )
  from_which r k e false own =
      let old : find r ≡ Some k = sym (adds r ∙ ap (λ v. cond v (Some id) (find r)) own) ∙ e in
      let at = have.among r k old in
      (at.0, at.1, front_still xs x at.0 at.1 at.2, at.3, at.4, at.5)

  pub one_resource_more : AreResources kept (xs ++ x ∷ []) after
  one_resource_more = record {
    found = λ n y e none. elim (front_or_last xs x n y e) [
      | inl before ↦ still_found y.name (have.found n y before none) (is_no_part x.declared && text_eq x.name y.name) refl
      | inr last ↦ subst (λ (z : NumberedType). (k : TypeId) × (after z.name ≡ Some k)) last (own_found (subst (λ (z : NumberedType). is_no_part z.declared ≡ true) (sym last) none))
    ];
    among = λ r k e. from_which r k e (is_no_part x.declared && text_eq x.name r) refl;
  }

pub resources_next : {A : Type 0} (kept : List ℕ) (g : A → NumberedType) (xs : List A) (i : ℕ) (d : A) (find after : Text → Option TypeId) (id : TypeId) → i < length xs
    → IsPart kept (slot_part (g (get_or xs i d)).slot) (14 + id.0)
    → ((r : Text) → after r ≡ noted (g (get_or xs i d)) id r (find r)) → AreResources kept (map g (take i xs)) find → AreResources kept (map g (take (i + 1) xs)) after
resources_next kept g xs i d find after id within is adds have =
    search (std_rules, take_more xs i d within, map-append g (take i xs) (get_or xs i d ∷ []), one_resource_more kept (map g (take i xs)) find after have (g (get_or xs i d)) id is adds)

-- ---- functions

-- a function that was made over its type
pub is_planned : (t : Tables) (kept : List ℕ) (find : Text → Option TypeId) (f : Text × NumberedFunction) (g : PlannedFunction) (shape : FunctionShape) → shape ≡ function_at t f.1.signature
    → g.name ≡ f.0 → NamesKind find f.0 shape.is_async g.kind → TakesAndGives kept shape g → g.external_id ≡ f.1.external_id → IsPlannedFunction t kept find f (g.name, g)
is_planned t kept find f g shape same named kind parts id = search std_rules
