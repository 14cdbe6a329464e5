-- Views that are each compared with the first of their place.
use Rattle.std.proofs.Common.{rules as std_rules, ◌≡◌, refl, sym, ap, subst, ℕ, zero, suc, ◌+◌, ◌<◌, arith, Bool, true, false, not, ◌&&◌, ◌||◌, ◌==◌, cond, List, [], ◌∷◌, ◌++◌, map, take, length, get_or, Option, Some, None, Result, IfOk, eq-eqb, append_assoc, ◌≤◌}
use Rattle.std.proofs.lemmas.{List.take_more, Bool.and_from as both}
use Rattle.std.specs.{Cmp.Lexicographic.pointwise, List.AllByRecursion, List.find, List.list_all, List.list_any, Option.option_map_or}
use Rattle.wit_model.specs.Text.{Text, text_eq}
use Rattle.comp_meaning.specs.Same.{stand_in}
use Rattle.plan_meaning.specs.NumberedViews.{NumberedFunction, NumberedSight, NumberedType, agree_with_first_in_numbers, agrees_with_first, first_whole_at, same_function, same_functions, same_id, same_shown, same_whole}
use Rattle.read_rules.specs.declared.sights.Sight.{Sight}
use Rattle.read_rules.specs.Sights.{numbered_sight}
use Rattle.plan_parts.specs.declared.views.Sighted.{Sighted}
use Rattle.plan_parts.specs.Views.{in_numbers, sighted}
use Rattle.wit_model.proofs.TextLemmas.{text_alike as text_self}

pub each_at : {A : Type 0} (P : A → Type 0) (xs : List A) (i : ℕ) (d : A) → i < length xs → AllByRecursion P xs → P (get_or xs i d)
each_at P [] i d h all = absurd (omega (arith, h))
each_at P (x ∷ xs) zero d h all = all.0
each_at P (x ∷ xs) (suc i) d h all = each_at P xs i d (omega (arith, h)) all.1

-- ---- places

-- ---- what is the same as itself

id_self : (o : Option Text) → same_id o o ≡ true
id_self x = search std_rules

type_self : (x : NumberedType) → same_shown x x ≡ true
type_self x = search std_rules

types_self : (xs : List NumberedType) → pointwise same_shown xs xs ≡ true
types_self [] = refl
types_self (x ∷ xs) = both (same_shown x x) (pointwise same_shown xs xs) (type_self x) (types_self xs)

function_self : (f : NumberedFunction) → same_function f f ≡ true
function_self f = both (f.signature == f.signature) (same_id f.external_id f.external_id) (eq-eqb f.signature f.signature refl) (id_self f.external_id)

any_behind : {A : Type 0} (test : A → Bool) (xs : List A) (x : A) (ys : List A) → test x ≡ true → list_any test (xs ++ x ∷ ys) ≡ true
any_behind test [] x ys h = ap (λ b. b || list_any test ys) h
any_behind test (y ∷ xs) x ys h = search (std_rules, any_behind test xs x ys h)

named_self : (f : Text × NumberedFunction) → (text_eq f.0 f.0 && same_function f.1 f.1) ≡ true
named_self f = both (text_eq f.0 f.0) (same_function f.1 f.1) (text_self f.0) (function_self f.1)

all_stand : (before fs : List (Text × NumberedFunction)) → list_all (λ x. list_any (λ y. text_eq x.0 y.0 && same_function x.1 y.1) (before ++ fs)) fs ≡ true
all_stand before [] = refl
all_stand before (f ∷ fs) = search (std_rules, both, any_behind, named_self, append_assoc, all_stand (before ++ f ∷ []) fs)

functions_self : (fs : List (Text × NumberedFunction)) → same_functions fs fs ≡ true
functions_self fs = both (length fs == length fs) (stand_in same_function fs fs) (eq-eqb (length fs) (length fs) refl) (all_stand [] fs)

-- ---- the first of all is the first of those before, or the view itself

find_on : {A : Type 0} (test : A → Bool) (xs ys : List A) (x : A) → find test xs ≡ Some x → find test (xs ++ ys) ≡ Some x
find_on test [] ys x e = absurd cc
find_on test (y ∷ xs) ys x e = go (test y) (find_on test xs ys x) e
  where
    go : (b : Bool) → (find test xs ≡ Some x → find test (xs ++ ys) ≡ Some x) → cond b (Some y) (find test xs) ≡ Some x → cond b (Some y) (find test (xs ++ ys)) ≡ Some x
    go true later e = e
    go false later e = later e

find_past : {A : Type 0} (test : A → Bool) (xs ys : List A) → find test xs ≡ None → find test (xs ++ ys) ≡ find test ys
find_past test [] ys e = refl
find_past test (y ∷ xs) ys e = go (test y) (find_past test xs ys) e
  where
    go : (b : Bool) → (find test xs ≡ None → find test (xs ++ ys) ≡ find test ys) → cond b (Some y) (find test xs) ≡ None → cond b (Some y) (find test (xs ++ ys)) ≡ find test ys
    go true later e = absurd cc
    go false later e = later e

-- what is said of the first is said alike, where it holds of the view itself
alike : {A : Type 0} (test says : A → Bool) (before : List A) (s : A) (rest : List A) → test s ≡ true → says s ≡ true → (o : Option A) → find test before ≡ o
    → option_map_or says (find test before) true ≡ option_map_or says (find test (before ++ s ∷ rest)) true
alike test says before s rest own self y e = search (std_rules, find_on, find_past)

wholes_alike : (before : List NumberedSight) (s : NumberedSight) (rest : List NumberedSight) (w : Bool) → s.whole ≡ w
    → (not w || option_map_or (λ f. same_whole f s) (first_whole_at s.place before) true) ≡ (not w || option_map_or (λ f. same_whole f s) (first_whole_at s.place (before ++ s ∷ rest)) true)
wholes_alike before s rest x e = search (std_rules, alike, both, eq-eqb, functions_self)

one_alike : (before : List NumberedSight) (s : NumberedSight) (rest : List NumberedSight) → agrees_with_first before s ≡ agrees_with_first (before ++ s ∷ rest) s
one_alike before s rest = search (std_rules, alike, eq-eqb, types_self, wholes_alike)

pub all_alike : (before seen : List NumberedSight) → agree_with_first_in_numbers before seen ≡ list_all (agrees_with_first (before ++ seen)) seen
all_alike before [] = refl
all_alike before (s ∷ rest) = search (std_rules, append_assoc, one_alike, all_alike (before ++ s ∷ []) rest)

-- ---- so many places

within : (n m : ℕ) → n ≤ m → (xs : List Sight) → AllByRecursion (λ (s : Sight). s.place < n) xs → AllByRecursion (λ (s : Sight). s.place < m) xs
within n m le [] h = tt
within n m le (x ∷ xs) h = (omega (arith, le, h.0), within n m le xs h.1)

and_last : (m : ℕ) (xs : List Sight) (x : Sight) → AllByRecursion (λ (s : Sight). s.place < m) xs → x.place < m → AllByRecursion (λ (s : Sight). s.place < m) (xs ++ x ∷ [])
and_last m [] x h less = (less, tt)
and_last m (y ∷ xs) x h less = (h.0, and_last m xs x h.1 less)

pub place_more : (n m : ℕ) (xs : List Sight) (i : ℕ) (d : Sight) → i < length xs → n ≤ m → (get_or xs i d).place < m → AllByRecursion (λ (s : Sight). s.place < n) (take i xs)
    → AllByRecursion (λ (s : Sight). s.place < m) (take (i + 1) xs)
place_more n m xs i d inside le less h =
    subst (λ (l : List Sight). AllByRecursion (λ (s : Sight). s.place < m) l) (sym (take_more xs i d inside)) (and_last m (take i xs) (get_or xs i d) (within n m le (take i xs) h) less)

-- ---- all views

pub places_kept : (n : ℕ) (all : List Sighted) (xs : List Sight) → map sighted all ≡ map in_numbers (map numbered_sight xs) → AllByRecursion (λ (s : Sight). s.place < n) xs
    → AllByRecursion (λ (s : Sighted). s.place < n) all
places_kept n [] xs e h = tt
places_kept n (y ∷ all) [] e h = absurd cc
places_kept n (y ∷ all) (x ∷ xs) e h =
    let head : sighted y ≡ in_numbers (numbered_sight x) = cc in
    let place : y.place ≡ x.place = ap (λ (p : ℕ × Bool). p.0) head in
    let rest : map sighted all ≡ map in_numbers (map numbered_sight xs) = cc in
    (omega (arith, place, h.0), places_kept n all xs rest h.1)

pub by_first : {E : Type 0} (r : Result Bool E) (seen : List NumberedSight) → IfOk r (λ b. b ≡ list_all (agrees_with_first seen) seen) → IfOk r (λ b. b ≡ agree_with_first_in_numbers [] seen)
by_first x seen h = search (std_rules, all_alike)
