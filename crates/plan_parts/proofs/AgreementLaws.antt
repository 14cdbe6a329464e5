-- Lists that go pair by pair, and functions that are told, added to a set one by one.
use Rattle.std.proofs.Common.{rules as std_rules, ◌≡◌, refl, sym, ap, ◌∙◌, ℕ, ◌+◌, ◌<◌, ◌≤◌, Bool, true, false, ◌&&◌, ◌||◌, ◌==◌, cond, List, [], ◌∷◌, ◌++◌, map, drop, length, get_or, Option, eq-eqb}
use Rattle.std.proofs.{Math.ListN.drop_of_length-le}
use Rattle.std.proofs.lemmas.{List.drop_more, List.map-append, List.Folds.list_any-append, Bool.or_left as either_true, Bool.or_right as second_of}
use Rattle.std.specs.{Borrow.Bor, Cmp.Lexicographic.pointwise, List.list_all, List.list_any, Option.option_eq}
use Rattle.wit_model.specs.Text.{Text, text_eq}
use Rattle.comp_meaning.specs.Same.{stand_in}
use Rattle.plan_meaning.specs.NumberedViews.{NumberedFunction, same_function, same_functions, same_id}
use Rattle.read_rules.specs.Tables.{given_text}
use Rattle.plan_parts.specs.declared.agreement.ToldFunction.{ToldFunction}
use Rattle.plan_parts.specs.Agreement.{are_told, is_told, tells_same, told_function, AreTold}
use Rattle.base_lemmas.proofs.{Bools.absorbed, Bools.left_of as first_true, Bools.or_false, Bools.or_line, Bools.right_of as second_true, Lists.length_of_map}
use Rattle.plan_parts.specs.contracts.agreement.ToldFunctionPartialEq.TheImpl as told_eq

-- ---- pair by pair

module _ {A B : Type 0} (E : B → B → Bool) (g : A → B) (xs ys : List A) (i : ℕ) {v : Bool} (kept : pointwise E (map g (drop i xs)) (map g (drop i ys)) ≡ v) where
  module _ (d e : A) (more : i < length xs) (more_too : i < length ys) where
    here : (E (g (get_or xs i d)) (g (get_or ys i e)) && pointwise E (map g (drop (i + 1) xs)) (map g (drop (i + 1) ys))) ≡ v
    here = sym (ap (λ us. pointwise E (map g us) (map g (get_or ys i e ∷ drop (i + 1) ys))) (drop_more xs i d more))
        ∙ (sym (ap (λ bs. pointwise E (map g (drop i xs)) (map g bs)) (drop_more ys i e more_too)) ∙ kept)

    pub pair_same : E (g (get_or xs i d)) (g (get_or ys i e)) ≡ true → pointwise E (map g (drop (i + 1) xs)) (map g (drop (i + 1) ys)) ≡ v
    pair_same same = sym (ap (λ b. b && pointwise E (map g (drop (i + 1) xs)) (map g (drop (i + 1) ys))) same) ∙ here

-- ---- functions that are told

abbrev same_told : ToldFunction → ToldFunction → Bool
same_told = told_eq.ghosts.eq

same_by : (a b : ToldFunction) → same_told a b ≡ (text_eq a.name.now b.name.now && ((a.signature == b.signature) && option_eq (λ x y. text_eq x.now y.now) a.external_id b.external_id))
same_by a b = refl

ids_same : (a b : Option (Bor (List ℕ))) → option_eq (λ x y. text_eq x.now y.now) a b ≡ same_id (given_text a) (given_text b)
ids_same x y = search std_rules

pub told_alike : (a b : ToldFunction) → same_told a b ≡ (text_eq (told_function a).0 (told_function b).0 && same_function (told_function a).1 (told_function b).1)
told_alike a b = ap (λ v. text_eq a.name.now b.name.now && ((a.signature == b.signature) && v)) (ids_same a.external_id b.external_id)

given_same : (a b : Option (Bor (List ℕ))) → option_eq (λ x y. text_eq x.now y.now) a b ≡ true → given_text a ≡ given_text b
given_same z u h = search std_rules

told_same : (a b : ToldFunction) → same_told a b ≡ true → told_function a ≡ told_function b
told_same a b h = search std_rules

-- what passes is found where it stands
stands : (test : Text × NumberedFunction → Bool) (a : ToldFunction) (ks : List ToldFunction) → list_any (same_told a) ks ≡ true → test (told_function a) ≡ true
    → list_any test (map told_function ks) ≡ true
stands test a [] among passes = absurd cc
stands test a (k ∷ ks) among passes = go (λ later. stands test a ks later passes) (same_told a k) refl among
  where
    go : (list_any (same_told a) ks ≡ true → list_any test (map told_function ks) ≡ true) → (v : Bool) → same_told a k ≡ v → (v || list_any (same_told a) ks) ≡ true
        → (test (told_function k) || list_any test (map told_function ks)) ≡ true
    go again true e h = ap (λ b. b || list_any test (map told_function ks)) (ap test (sym (told_same a k e)) ∙ passes)
    go again false e h = second_of (test (told_function k)) (list_any test (map told_function ks)) (again h)

pub function_added : (test : Text × NumberedFunction → Bool) (ks new : List ToldFunction) (a : ToldFunction) (f : Text × NumberedFunction) → told_function a ≡ f
    → new ≡ cond (list_any (same_told a) ks) ks (ks ++ a ∷ []) → list_any test (map told_function new) ≡ (list_any test (map told_function ks) || test f)
function_added test ks new a f is added = search (std_rules, absorbed, stands, map-append, list_any-append, or_false)

-- those that were added and those that are left
module _ {A B : Type 0} (test : B → Bool) (g : A → B) (xs : List A) (i : ℕ) {v : Bool} (old : Bool) (kept : (old || list_any test (map g (drop i xs))) ≡ v) where
  pub one_more : (d : A) → i < length xs → (new : Bool) → new ≡ (old || test (g (get_or xs i d))) → (new || list_any test (map g (drop (i + 1) xs))) ≡ v
  one_more d more new added = search (std_rules, or_line, drop_more)

  pub none_left : length xs ≤ i → old ≡ v
  none_left past = sym (or_false old) ∙ (sym (ap (λ us. old || list_any test (map g us)) (drop_of_length-le xs past)) ∙ kept)

pub told_among : (a : ToldFunction) (f : Text × NumberedFunction) → told_function a ≡ f → (ks : List ToldFunction) → list_any (same_told a) ks ≡ is_told (map told_function ks) f
told_among a f is [] = refl
told_among a f is (k ∷ ks) = search (std_rules, told_alike, told_among a f is ks)

-- ---- the same functions

pub by_told : (told gs : List (Text × NumberedFunction)) → AreTold told gs → (fs : List (Text × NumberedFunction))
    → are_told told fs ≡ list_all (λ f. list_any (λ g. text_eq f.0 g.0 && same_function f.1 g.1) gs) fs
by_told told gs alike [] = refl
by_told told gs alike (f ∷ fs) = search std_rules

pub as_many : {A B : Type 0} (g : A → B) (xs ys : List A) → length xs ≡ length ys → (length (map g xs) == length (map g ys)) ≡ true
as_many g xs ys same = eq-eqb (length (map g xs)) (length (map g ys)) (length_of_map g xs ∙ (same ∙ sym (length_of_map g ys)))

pub same_told_functions : (told fs gs : List (Text × NumberedFunction)) → AreTold told gs → (length fs == length gs) ≡ true → are_told told fs ≡ same_functions fs gs
same_told_functions told fs gs alike many = by_told told gs alike fs ∙ sym (ap (λ b. b && stand_in same_function fs gs) many)

-- ---- the same functions in the same order

-- each stands among those of the other, whatever stands in front of these
paired : (fs gs hs : List (Text × NumberedFunction)) → ((test : Text × NumberedFunction → Bool) → list_any test gs ≡ true → list_any test hs ≡ true) → pointwise tells_same fs gs ≡ true
    → list_all (λ f. list_any (λ g. text_eq f.0 g.0 && same_function f.1 g.1) hs) fs ≡ true
paired [] gs hs within h = refl
paired (f ∷ fs) [] hs within h = absurd cc
paired (f ∷ fs) (g ∷ gs) hs within h =
    let here = within (tells_same f) (either_true (tells_same f g) (list_any (tells_same f) gs) (first_true (tells_same f g) (pointwise tells_same fs gs) h)) in
    let behind = paired fs gs hs (λ test e. within test (second_of (test g) (list_any test gs) e)) (second_true (tells_same f g) (pointwise tells_same fs gs) h) in
    ap (λ b. b && list_all (λ x. list_any (λ y. text_eq x.0 y.0 && same_function x.1 y.1) hs) fs) here ∙ behind

pub told_in_order : (fs gs : List (Text × NumberedFunction)) → (length fs == length gs) ≡ true → pointwise tells_same fs gs ≡ true → same_functions fs gs ≡ true
told_in_order fs gs many h = ap (λ b. b && stand_in same_function fs gs) many ∙ paired fs gs gs (λ test e. e) h
