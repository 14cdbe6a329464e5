-- Views that agree with the first of their place agree with each other, in numbers: a number stands for a tree of its own here, so that what is
-- known of trees holds of numbers.
use Rattle.std.proofs.Common.{rules as std_rules, ◌≡◌, refl, sym, ap, subst, ◌∙◌, ℕ, zero, suc, arith, Bool, true, false, not, ◌&&◌, ◌||◌, ◌==◌, cond, List, [], ◌∷◌, ◌++◌, map, Option, Some, None, inl, inr}
use Rattle.std.proofs.lemmas.List.{Folds.find-append, Elements.Contains-append_left, Elements.Contains-append_right, Elements.Contains-append_cases}
use Rattle.std.proofs.lemmas.Bool.{and_from, eqb-true, eq-eqb}
use Rattle.std.specs.{List.Contains, List.find, List.list_all, List.list_any, Option.option_map_or, Option.option_or, Cmp.Lexicographic.pointwise}
use Rattle.wit_model.specs.{Text.Text, Text.text_eq, Tree.Form, Tree.Tree, Tree.Trees, Tree.TypeDeclaration, Meaning.FunctionMeaning}
use Rattle.comp_meaning.specs.{Follow.ShownType, Follow.Slot, Rules.distinct, Same.same_option}
use Rattle.comp_meaning.proofs.{SameLaws.shown_types_decide, FunctionLists.functions_make_one_map, AgreementLaws.found_contains, AgreementLaws.distinct_behind}
use Rattle.plan_meaning.specs.{NumberedMembers.are_interfaces, NumberedRules.Fact, NumberedRules.is_interface}
use Rattle.plan_meaning.specs.NumberedViews.{NumberedFunction, NumberedSight, NumberedType, Tables, agree, agree_in_numbers, agree_with_first_in_numbers, agrees_with_first, first_at, first_whole_at, same_function, same_functions, same_number, same_shown, same_types, same_whole}
use Rattle.base_lemmas.proofs.Bools.{and-true as and_true, both_ways as either_way, left_of as first_true, right_of as second_true}
use Rattle.base_lemmas.proofs.{Elements.last_of, Lists.length_of_map}
use Rattle.comp_meaning.specs.Same as same
use Rattle.comp_meaning.specs.Reads as reads

-- ---- numbers as trees of their own

abbrev tree_of : ℕ → Tree
tree_of n = Tree.node (Form.fixed_list_of n) Trees.no_children

abbrev as_declared : Option ℕ → TypeDeclaration
as_declared None = TypeDeclaration.resource
as_declared (Some k) = TypeDeclaration.type_ (tree_of k)

abbrev as_type : NumberedType → ShownType
as_type x = record { name = x.name; meaning = record { declaration = as_declared x.declared; external_id = x.external_id }; slot = Slot.instance [] 0 }

abbrev as_function : Text × NumberedFunction → Text × FunctionMeaning
as_function f = (f.0, record { signature = record { is_async = false; params = []; result = Some (tree_of f.1.signature) }; external_id = f.1.external_id })

declared_alike : (a b : Option ℕ) → same.same_declaration (as_declared a) (as_declared b) ≡ same_number a b
declared_alike x y = search std_rules

type_alike : (x y : NumberedType) → reads.same_shown (as_type x) (as_type y) ≡ same_shown x y
type_alike x y = ap (λ b. text_eq x.name y.name && (b && same_option text_eq x.external_id y.external_id)) (declared_alike x.declared y.declared)

types_alike : (xs ys : List NumberedType) → pointwise reads.same_shown (map as_type xs) (map as_type ys) ≡ pointwise same_shown xs ys
types_alike [] [] = refl
types_alike [] (y ∷ ys) = refl
types_alike (x ∷ xs) [] = refl
types_alike (x ∷ xs) (y ∷ ys) = λ i. type_alike x y i && types_alike xs ys i

function_alike : (f g : Text × NumberedFunction) → (text_eq f.0 g.0 && same.same_function (as_function f).1 (as_function g).1) ≡ (text_eq f.0 g.0 && same_function f.1 g.1)
function_alike f g = ap (λ b. text_eq f.0 g.0 && (b && same_option text_eq f.1.external_id g.1.external_id)) (and_true (f.1.signature == g.1.signature))

function_found : (f : Text × NumberedFunction) (gs : List (Text × NumberedFunction))
    → list_any (λ y. text_eq f.0 y.0 && same.same_function (as_function f).1 y.1) (map as_function gs) ≡ list_any (λ y. text_eq f.0 y.0 && same_function f.1 y.1) gs
function_found f [] = refl
function_found f (g ∷ gs) = λ i. function_alike f g i || function_found f gs i

functions_stand : (fs gs : List (Text × NumberedFunction)) → same.stand_in same.same_function (map as_function fs) (map as_function gs) ≡ same.stand_in same_function fs gs
functions_stand [] gs = refl
functions_stand (f ∷ fs) gs = λ i. function_found f gs i && functions_stand fs gs i

functions_alike : (fs gs : List (Text × NumberedFunction)) → reads.same_functions (map as_function fs) (map as_function gs) ≡ same_functions fs gs
functions_alike fs gs = λ i. length_of_map as_function fs i == length_of_map as_function gs i && functions_stand fs gs i

-- ---- one view and another

-- no function stands twice
abbrev IsOnce : NumberedSight → Type 0
IsOnce s = distinct (map (λ f. f.0) s.view.functions) ≡ true

names_alike : (fs : List (Text × NumberedFunction)) → map (λ f. f.0) (map as_function fs) ≡ map (λ f. f.0) fs
names_alike [] = refl
names_alike (f ∷ fs) = ap (λ xs. f.0 ∷ xs) (names_alike fs)

once_alike : (s : NumberedSight) → IsOnce s → distinct (map (λ f. f.0) (map as_function s.view.functions)) ≡ true
once_alike s one = ap distinct (names_alike s.view.functions) ∙ one

type_join : (f a b : NumberedSight) → same_types f a ≡ true → same_types f b ≡ true → same_types a b ≡ true
type_join f a b p q =
    let xs = map as_type f.view.types in
    let ys = map as_type a.view.types in
    let zs = map as_type b.view.types in
    sym (types_alike a.view.types b.view.types)
    ∙ (shown_types_decide ys zs).1 (sym ((shown_types_decide xs ys).0 (types_alike f.view.types a.view.types ∙ p)) ∙ (shown_types_decide xs zs).0 (types_alike f.view.types b.view.types ∙ q))

type_itself : (a : NumberedSight) → same_types a a ≡ true
type_itself a = sym (types_alike a.view.types a.view.types) ∙ (shown_types_decide (map as_type a.view.types) (map as_type a.view.types)).1 refl

function_join : (f a b : NumberedSight) → IsOnce f → IsOnce a → IsOnce b → same_whole f a ≡ true → same_whole f b ≡ true → same_whole a b ≡ true
function_join f a b one two three p q =
    let xs = map as_function f.view.functions in
    let ys = map as_function a.view.functions in
    let zs = map as_function b.view.functions in
    sym (functions_alike a.view.functions b.view.functions) ∙ (functions_make_one_map ys zs (once_alike a two) (once_alike b three)).1
    (sym ((functions_make_one_map xs ys (once_alike f one) (once_alike a two)).0 (functions_alike f.view.functions a.view.functions ∙ p))
    ∙ (functions_make_one_map xs zs (once_alike f one) (once_alike b three)).0 (functions_alike f.view.functions b.view.functions ∙ q))

function_itself : (a : NumberedSight) → IsOnce a → same_whole a a ≡ true
function_itself a one =
    let xs = map as_function a.view.functions in
    sym (functions_alike a.view.functions a.view.functions) ∙ (functions_make_one_map xs xs (once_alike a one) (once_alike a one)).1 refl

-- what agreement says, and what says it
agree_types : (a b : NumberedSight) → agree a b ≡ true → a.place ≡ b.place → same_types a b ≡ true
agree_types a b h e = search std_rules

agree_functions : (a b : NumberedSight) → agree a b ≡ true → a.place ≡ b.place → a.whole ≡ true → b.whole ≡ true → same_whole a b ≡ true
agree_functions a b h e p q = search std_rules

agree_from : (a b : NumberedSight) → (a.place ≡ b.place → same_types a b ≡ true) → (a.place ≡ b.place → a.whole ≡ true → b.whole ≡ true → same_whole a b ≡ true) → agree a b ≡ true
agree_from a b types functions = search std_rules

-- ---- agreement with each is agreement with the first

into : (rest earlier : List NumberedSight) → ((x : NumberedSight) → Contains earlier x → list_all (agree x) rest ≡ true) → agree_in_numbers rest ≡ true
    → agree_with_first_in_numbers earlier rest ≡ true
into [] earlier before all = refl
into (s ∷ rest) earlier before all = and_from (agrees_with_first earlier s) (agree_with_first_in_numbers (earlier ++ s ∷ []) rest)
    (and_from (option_map_or (λ f. same_types f s) (first_at s.place earlier) true) (not s.whole || option_map_or (λ f. same_whole f s) (first_whole_at s.place earlier) true)
    (types (first_at s.place earlier) refl) (whole s.whole refl)) (into rest (earlier ++ s ∷ []) (λ x c. elim (Contains-append_cases earlier (s ∷ []) x c) [
      | inl there ↦ second_true (agree x s) (list_all (agree x) rest) (before x there)
      | inr last ↦ subst (λ (y : NumberedSight). list_all (agree y) rest ≡ true) (last_of s x last) (first_true (list_all (agree s) rest) (agree_in_numbers rest) all)
    ]) (second_true (list_all (agree s) rest) (agree_in_numbers rest) all))
  where
    agrees : (f : NumberedSight) → Contains earlier f → agree f s ≡ true
    agrees f c = first_true (agree f s) (list_all (agree f) rest) (before f c)

    types : (o : Option NumberedSight) → first_at s.place earlier ≡ o → option_map_or (λ f. same_types f s) o true ≡ true
    types None e = refl
    types (Some f) e = let found = found_contains (λ x. s.place == x.place) earlier f e in agree_types f s (agrees f found.1) (sym (eqb-true s.place f.place found.0))

    functions : s.whole ≡ true → (o : Option NumberedSight) → first_whole_at s.place earlier ≡ o → option_map_or (λ f. same_whole f s) o true ≡ true
    functions w None e = refl
    functions w (Some f) e =
        let found = found_contains (λ x. s.place == x.place && x.whole) earlier f e in
        let path = eqb-true s.place f.place (first_true ((s.place == f.place)) f.whole found.0) in
        agree_functions f s (agrees f found.1) (sym path) (second_true ((s.place == f.place)) f.whole found.0) w

    whole : (b : Bool) → s.whole ≡ b → (not b || option_map_or (λ f. same_whole f s) (first_whole_at s.place earlier) true) ≡ true
    whole false e = refl
    whole true e = functions e (first_whole_at s.place earlier) refl

-- what is known of the views so far: each is like the first of its path, and no function stands twice
record Known (earlier : List NumberedSight) : Type 0 where
  types : (x : NumberedSight) → Contains earlier x → (f : NumberedSight) × (first_at x.place earlier ≡ Some f) × (same_types f x ≡ true)
  functions : (x : NumberedSight) → Contains earlier x → x.whole ≡ true → (f : NumberedSight) × (first_whole_at x.place earlier ≡ Some f) × (same_whole f x ≡ true)
  once : (x : NumberedSight) → Contains earlier x → IsOnce x

module _ (earlier : List NumberedSight) (s : NumberedSight) (known : Known earlier) (one : IsOnce s) (agrees : agrees_with_first earlier s ≡ true) where
  with_types : (f : NumberedSight) → first_at s.place earlier ≡ Some f → same_types f s ≡ true
  with_types f e = search std_rules

  with_functions : s.whole ≡ true → (f : NumberedSight) → first_whole_at s.place earlier ≡ Some f → same_whole f s ≡ true
  with_functions w f e = search std_rules

  -- it agrees with each of them
  with_each : (x : NumberedSight) → Contains earlier x → agree x s ≡ true
  with_each x c = agree_from x s (λ path.
      let first = known.types x c in
      type_join first.0 x s first.2 (with_types first.0 (ap (λ p. first_at p earlier) (sym path) ∙ first.1))) (λ path mine yours.
      let first = known.functions x c mine in
      let there = found_contains (λ y. x.place == y.place && y.whole) earlier first.0 first.1 in
      function_join first.0 x s (known.once first.0 there.1) (known.once x c) one first.2 (with_functions yours first.0 (ap (λ p. first_whole_at p earlier) (sym path) ∙ first.1)))

  -- and then the same is known of one more
  known_more : Known (earlier ++ s ∷ [])
  known_more = record {
    types = λ x c. elim (Contains-append_cases earlier (s ∷ []) x c) [
      | inl there ↦ (let first = known.types x there in (
        first.0,
        find-append (λ y. x.place == y.place) earlier (s ∷ []) ∙ ap (λ o. option_or o (find (λ y. x.place == y.place) (s ∷ []))) first.1,
        first.2,
      ))
      | inr last ↦ subst (λ (y : NumberedSight). (f : NumberedSight) × (first_at y.place (earlier ++ s ∷ []) ≡ Some f) × (same_types f y ≡ true)) (last_of s x last)
          (own_types (first_at s.place earlier) refl)
    ];
    functions = λ x c w. elim (Contains-append_cases earlier (s ∷ []) x c) [
      | inl there ↦ (let first = known.functions x there w in (
        first.0,
        find-append (λ y. x.place == y.place && y.whole) earlier (s ∷ []) ∙ ap (λ o. option_or o (find (λ y. x.place == y.place && y.whole) (s ∷ []))) first.1,
        first.2,
      ))
      | inr last ↦ subst (λ (y : NumberedSight). (f : NumberedSight) × (first_whole_at y.place (earlier ++ s ∷ []) ≡ Some f) × (same_whole f y ≡ true)) (last_of s x last)
          (own_functions (ap (λ y. y.whole) (last_of s x last) ∙ w) (first_whole_at s.place earlier) refl)
    ];
    once = λ x c. elim (Contains-append_cases earlier (s ∷ []) x c) [ inl there ↦ known.once x there | inr last ↦ subst IsOnce (last_of s x last) one ];
  }
    where
      own_types : (o : Option NumberedSight) → first_at s.place earlier ≡ o → (f : NumberedSight) × (first_at s.place (earlier ++ s ∷ []) ≡ Some f) × (same_types f s ≡ true)
      own_types (Some f) e = (f, find-append (λ y. s.place == y.place) earlier (s ∷ []) ∙ ap (λ o. option_or o (find (λ y. s.place == y.place) (s ∷ []))) e, with_types f e)
      own_types None e = (
        s,
        find-append (λ y. s.place == y.place) earlier (s ∷ []) ∙ (ap (λ o. option_or o (find (λ y. s.place == y.place) (s ∷ []))) e ∙ ap (λ b. cond b (Some s) None) (eq-eqb s.place s.place refl)),
        type_itself s,
      )

      own_functions : s.whole ≡ true → (o : Option NumberedSight) → first_whole_at s.place earlier ≡ o → (f : NumberedSight) × (first_whole_at s.place (earlier ++ s ∷ []) ≡ Some f)
          × (same_whole f s ≡ true)
      own_functions w (Some f) e = (
        f,
        find-append (λ y. s.place == y.place && y.whole) earlier (s ∷ []) ∙ ap (λ o. option_or o (find (λ y. s.place == y.place && y.whole) (s ∷ []))) e,
        with_functions w f e,
      )
      own_functions w None e = (
        s,
        find-append (λ y. s.place == y.place && y.whole) earlier (s ∷ [])
            ∙ (ap (λ o. option_or o (find (λ y. s.place == y.place && y.whole) (s ∷ []))) e ∙ ap (λ b. cond b (Some s) None) (and_from (s.place == s.place) s.whole (eq-eqb s.place s.place refl) w)),
        function_itself s one,
      )

back : (rest earlier : List NumberedSight) → Known earlier → ((x : NumberedSight) → Contains rest x → IsOnce x) → agree_with_first_in_numbers earlier rest ≡ true
    → ((x : NumberedSight) → Contains earlier x → list_all (agree x) rest ≡ true) × (agree_in_numbers rest ≡ true)
back [] earlier known once all = (λ x c. refl, refl)
back (s ∷ rest) earlier known once all =
    let agrees = first_true (agrees_with_first earlier s) (agree_with_first_in_numbers (earlier ++ s ∷ []) rest) all in
    let others = second_true (agrees_with_first earlier s) (agree_with_first_in_numbers (earlier ++ s ∷ []) rest) all in
    let one = once s (0, omega arith, refl) in
    let more = back rest (earlier ++ s ∷ []) (known_more earlier s known one agrees) (λ x c. once x (suc c.0, (let low = c.1 in omega (arith, low)), c.2)) others in (
      λ x c. and_from (agree x s) (list_all (agree x) rest) (with_each earlier s known one agrees x c) (more.0 x (Contains-append_left earlier (s ∷ []) x c)),
      and_from (list_all (agree s) rest) (agree_in_numbers rest) (more.0 s (Contains-append_right earlier (s ∷ []) s (0, omega arith, refl))) more.1,
    )

-- ---- views of interfaces

none_contained : (x : NumberedSight) → Contains [] x → ⊥
none_contained x (i, low, h) = omega (arith, low)

module _ (t : Tables) (known : ℕ → Fact) where
  interfaces_once : (seen : List NumberedSight) → are_interfaces t known seen ≡ true → (x : NumberedSight) → Contains seen x → IsOnce x
  interfaces_once [] e x c = absurd (none_contained x c)
  interfaces_once (s ∷ rest) e x (suc i, low, h) = interfaces_once rest (second_true (is_interface t known s.place s.view) (are_interfaces t known rest) e) x (i, omega (arith, low), h)
  interfaces_once (s ∷ rest) e x (zero, low, h) = subst IsOnce h (of_interface (first_true (is_interface t known s.place s.view) (are_interfaces t known rest) e))
    where
      of_interface : is_interface t known s.place s.view ≡ true → IsOnce s
      of_interface i = distinct_behind (map (λ x. x.name) s.view.types) (map (λ f. f.0) s.view.functions)
          (second_true _ (distinct (map (λ x. x.name) s.view.types ++ map (λ f. f.0) s.view.functions)) i)

  first_agrees : (seen : List NumberedSight) → are_interfaces t known seen ≡ true → agree_in_numbers seen ≡ agree_with_first_in_numbers [] seen
  first_agrees seen interfaces = either_way (agree_in_numbers seen) (agree_with_first_in_numbers [] seen) (λ all. into seen [] (λ x c. absurd (none_contained x c)) all)
      (λ all. (back seen [] nothing_known (interfaces_once seen interfaces) all).1)
    where
      nothing_known : Known []
      nothing_known = record { types = λ x c. absurd (none_contained x c); functions = λ x c w. absurd (none_contained x c); once = λ x c. absurd (none_contained x c) }

  -- with the first alone or each with each, where all are views of interfaces
  pub agree_by_first : (seen : List NumberedSight) → (agree_in_numbers seen && are_interfaces t known seen) ≡ (agree_with_first_in_numbers [] seen && are_interfaces t known seen)
  agree_by_first seen = search (std_rules, first_agrees)
