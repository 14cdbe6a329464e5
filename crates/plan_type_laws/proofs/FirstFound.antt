-- What is shown of a type first is a showing of it.
use Rattle.std.proofs.Common.{rules as std_rules, ◌≡◌, refl, sym, ap, ◌∙◌, ◌+◌, Bool, true, false, ◌==◌, cond, List, [], ◌∷◌, Some, None}
use Rattle.std.proofs.lemmas.{Bool.eqb-true, Bool.ltb-false, Bool.ltb-true, List.get_or_past, Option.same_Some as same-some}
use Rattle.std.specs.{List.Contains, List.find}
use Rattle.plan_types.specs.{FirstShown.first_showing, Showings.NumberedShowing}
use Rattle.plan_type_laws.specs.ShownForms.{FindsShown, FirstsAreFound}
use Rattle.base_lemmas.proofs.Elements.{contains-later, get-contains}

pub first_found : {A : Type 0} (test : A → Bool) (xs : List A) (x : A) → find test xs ≡ Some x → Contains xs x × (test x ≡ true)
first_found test [] x e = let wrong : None ≡ Some x = e in absurd cc
first_found test (y ∷ xs) x e = by (test y) refl e (first_found test xs x)
  where
    by : (b : Bool) → test y ≡ b → cond b (Some y) (find test xs) ≡ Some x → (find test xs ≡ Some x → Contains xs x × (test x ≡ true)) → Contains (y ∷ xs) x × (test x ≡ true)
    by true h e later = let same : y ≡ x = same-some y x e in (get-contains (y ∷ xs) 0 x e, ap test (sym same) ∙ h)
    by false h e later = let found = later e in (contains-later y xs x found.0, found.1)

first_is_found : (showings : List NumberedShowing) → FindsShown showings (λ n. first_showing n showings)
first_is_found showings n s e = let found = first_found (λ (s : NumberedShowing). 14 + n == s.part) showings s e in (found.0, sym (eqb-true (14 + n) s.part found.1))

pub firsts_found : FirstsAreFound
firsts_found showings = (first_is_found showings, (λ table tells n s e. search (std_rules, first_is_found, ltb-true, get_or_past, ltb-false)))
