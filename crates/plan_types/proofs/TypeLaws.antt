-- The types of a plan.
use Rattle.std.proofs.Common.{◌≡◌, sym, ap, subst, ◌∙◌, ℕ, ◌<◌, ◌+◌, length, get_or, map, take, List, [], ◌∷◌, ◌++◌, Option, Some, None, Result, Ok, Err, IfOk, slice_get}
use Rattle.std.proofs.lemmas.{List.map-append, List.take_more, Option.same_Some as same-some}
use Rattle.std.specs.List.{AllZip}
use Rattle.wit_model.specs.declared.model.TypeOwner.{TypeOwner}
use Rattle.wit_model.specs.Text.{Text}
use Rattle.wit_model.proofs.Elements.{zip-push}
use Rattle.plan_meaning.specs.{NumberedRules.name_in, NumberedViews.Tables, Shapes.Shape}
use Rattle.plan_build.specs.declared.plan.PlannedType.{PlannedType}
use Rattle.plan_build.specs.PlanOf.{stated_type}
use Rattle.plan_parts.specs.Kinds.{IsFormed, IsFormOver, IsKindFor, MayBeDeclared}
use Rattle.plan_types.specs.PlannedTypes.{MayBePlanned, PlansType, a_form, a_name, unnamed, named}
use Rattle.plan_types.specs.Showings.{NumberedShowing}
use Rattle.wit_model.specs.declared.model.TypeOwner.TheVariants as owner

module _ (t : Tables) (kept : List ℕ) (find : ℕ → Option NumberedShowing) (n : ℕ) where
  module _ (s : Shape) (at : slice_get t.shapes n ≡ Some s) where
    pub over_form : MayBePlanned t kept find n → name_in s ≡ None → IsFormOver kept s
    over_form (a_form r there no_name over) none = subst (IsFormOver kept) (same-some r s (sym there ∙ at)) over
    over_form (a_name r q name x there is shown may) none =
        let wrong : None ≡ Some (q, name) = sym none ∙ (ap name_in (sym (same-some r s (sym there ∙ at))) ∙ is) in absurd cc

    pub shown_declares : MayBePlanned t kept find n → (q : ℕ) (name : Text) → name_in s ≡ Some (q, name) → (y : NumberedShowing) → find n ≡ Some y → MayBeDeclared t kept y.declared
    shown_declares (a_form r there no_name over) q name is y shown =
        let wrong : None ≡ Some (q, name) = sym no_name ∙ (ap name_in (same-some r s (sym there ∙ at)) ∙ is) in absurd cc
    shown_declares (a_name r p other x there named_so first may) q name is y shown = subst (λ (z : NumberedShowing). MayBeDeclared t kept z.declared) (same-some x y (sym first ∙ shown)) may

    pub is_shown : MayBePlanned t kept find n → (q : ℕ) (name : Text) → name_in s ≡ Some (q, name) → find n ≡ None → ⊥
    is_shown (a_form r there no_name over) q name is none =
        let wrong : None ≡ Some (q, name) = sym no_name ∙ (ap name_in (same-some r s (sym there ∙ at)) ∙ is) in absurd cc
    is_shown (a_name r p other x there named_so first may) q name is none = let wrong : None ≡ Some x = sym none ∙ first in absurd cc

    module _ (owners : ℕ → TypeOwner) {E : Type 0} where
      pub unnamed_planned : (r : Result PlannedType E) → name_in s ≡ None → IfOk r (λ x. (stated_type x).name ≡ None) → IfOk r (λ x. (stated_type x).owner ≡ owner.None)
          → IfOk r (λ x. (stated_type x).external_id ≡ None) → IfOk r (λ x. IsFormed kept s (stated_type x).kind) → IfOk r (λ x. PlansType t kept find owners n (stated_type x))
      unnamed_planned (Ok x) none a b c d = unnamed s at none a b c d
      unnamed_planned (Err e) none a b c d = tt

      pub named_planned : (r : Result PlannedType E) (q : ℕ) (name : Text) → name_in s ≡ Some (q, name) → (y : NumberedShowing) → find n ≡ Some y → (o : TypeOwner) → o ≡ owners q
          → IfOk r (λ x. (stated_type x).name ≡ Some name) → IfOk r (λ x. (stated_type x).owner ≡ o) → IfOk r (λ x. (stated_type x).external_id ≡ y.external_id)
          → IfOk r (λ x. IsKindFor t kept y.declared (stated_type x).kind) → IfOk r (λ x. PlansType t kept find owners n (stated_type x))
      named_planned (Ok x) q name is y shown o own a b c d = named s q name y at is shown a (b ∙ own) c d
      named_planned (Err e) q name is y shown o own a b c d = tt

-- one type more
pub type_next : (t : Tables) (kept : List ℕ) (find : ℕ → Option NumberedShowing) (owners : ℕ → TypeOwner) (numbers : List ℕ) → numbers ≡ kept → (i d : ℕ) → i < length numbers
    → (old new : List PlannedType) (y : PlannedType) → new ≡ old ++ y ∷ [] → PlansType t kept find owners (get_or numbers i d) (stated_type y)
    → AllZip (PlansType t kept find owners) (take i kept) (map stated_type old) → AllZip (PlansType t kept find owners) (take (i + 1) kept) (map stated_type new)
type_next t kept find owners numbers same i d within old new y added is before =
    let P = PlansType t kept find owners in
    let olds : take (i + 1) kept ≡ take i kept ++ get_or numbers i d ∷ [] = sym (ap (take (i + 1)) same) ∙ (take_more numbers i d within ∙ ap (λ l. take i l ++ get_or numbers i d ∷ []) same) in
    let news : map stated_type new ≡ map stated_type old ++ stated_type y ∷ [] = ap (map stated_type) added ∙ map-append stated_type old (y ∷ []) in
    subst (λ ns. AllZip P ns (map stated_type new)) (sym olds) (subst (AllZip P (take i kept ++ get_or numbers i d ∷ [])) (sym news)
    (zip-push P (take i kept) (map stated_type old) (get_or numbers i d) (stated_type y) before is))
