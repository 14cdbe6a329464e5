-- The first showing of each type.
use Rattle.std.proofs.Common.{rules as std_rules, ◌≡◌, refl, sym, ap, ◌∙◌, ℕ, ◌+◌, ◌<◌, arith, Bool, ◌==◌, cond, List, [], ◌∷◌, ◌++◌, length, map, take, get_or, Option, Some, None}
use Rattle.std.proofs.lemmas.List.{map-append, take_more}
use Rattle.std.specs.List.{find}
use Rattle.plan_types.specs.declared.showings.Showing.{Showing}
use Rattle.plan_types.specs.FirstShown.{earlier, first_showing, IsNoted, TellsFirst}
use Rattle.plan_types.specs.Showings.{NumberedShowing, numbered_showing}

through : (b : Bool) (y : NumberedShowing) (o l : Option NumberedShowing) → cond b (Some y) (earlier o l) ≡ earlier (cond b (Some y) o) l
through x y o l = search std_rules

find_one : (p : NumberedShowing → Bool) (xs : List NumberedShowing) (x : NumberedShowing) → find p (xs ++ x ∷ []) ≡ earlier (find p xs) (cond (p x) (Some x) None)
find_one p [] x = refl
find_one p (y ∷ ys) x = ap (cond (p y) (Some y)) (find_one p ys x) ∙ through (p y) y (find p ys) (cond (p x) (Some x) None)

-- one showing more
pub told_next : (xs : List Showing) (i : ℕ) (d : Showing) → i < length xs → (old new : List (Option Showing)) → TellsFirst (map numbered_showing (take i xs)) old
    → IsNoted (numbered_showing (get_or xs i d)) old new → TellsFirst (map numbered_showing (take (i + 1) xs)) new
told_next xs i d within old new before noted n few =
    let x = numbered_showing (get_or xs i d) in
    let here : n < length old = omega (arith, few, noted.many) in
    noted.each n here ∙ (ap (λ o. earlier o (cond (14 + n == x.part) (Some x) None)) (before n here)
    ∙ (sym (find_one (λ s. 14 + n == s.part) (map numbered_showing (take i xs)) x)
    ∙ ap (first_showing n) (sym (ap (map numbered_showing) (take_more xs i d within) ∙ map-append numbered_showing (take i xs) (get_or xs i d ∷ [])))))
