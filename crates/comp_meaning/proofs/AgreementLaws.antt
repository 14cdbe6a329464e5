-- Views that agree with the first of their path agree with each other, since to show the same is to show what is equal.
use Rattle.std.proofs.Common.{rules as std_rules, ◌≡◌, refl, sym, ap, subst, ◌∙◌, suc, arith, Bool, true, false, not, ◌&&◌, ◌||◌, cond, List, [], ◌∷◌, ◌++◌, map, Option, Some, None, inl, inr}
use Rattle.std.proofs.lemmas.List.{Folds.find-append, Elements.Contains-append_left, Elements.Contains-append_right, Elements.Contains-append_cases}
use Rattle.std.proofs.lemmas.Bool.{and_from}
use Rattle.std.specs.{List.Contains, List.find, List.list_all, List.list_any, Option.option_map_or, Option.option_or}
use Rattle.wit_model.specs.{Text.Text, Text.text_eq, Tree.Place}
use Rattle.wit_model.proofs.{VersionLaws.same_text, TextLemmas.text_same}
use Rattle.comp_meaning.specs.{Rules.distinct, Rules.is_interface, Reads.Sight, Reads.same_functions, Reads.agree, Reads.all_agree, Reads.are_interfaces}
use Rattle.comp_meaning.specs.Agreement.{first_of, first_whole, same_types, agrees_with_first, agree_with_first, FirstAgrees}
use Rattle.comp_meaning.proofs.{SameLaws.shown_types_decide, FunctionLists.functions_make_one_map}
use Rattle.base_lemmas.proofs.Bools.{both_ways as either_way, left_of as first_true, right_of as second_true}
use Rattle.base_lemmas.proofs.Elements.{all-contained, last_of, none_in as none_contained}

-- what holds where a test passes
abbrev pub Implies : Bool → Bool → Type 0
Implies a b = a ≡ true → b ≡ true

pub implied : (a b : Bool) → Implies a b → (not a || b) ≡ true
implied x b h = search std_rules

-- ---- one view and another
-- no function stands twice
abbrev IsOnce : Sight → Type 0
IsOnce s = distinct (map (λ f. f.0) s.view.functions) ≡ true

type_join : (f a b : Sight) → same_types f a ≡ true → same_types f b ≡ true → same_types a b ≡ true
type_join f a b p q = (shown_types_decide a.view.types b.view.types).1 (sym ((shown_types_decide f.view.types a.view.types).0 p) ∙ (shown_types_decide f.view.types b.view.types).0 q)

abbrev same_in_functions : Sight → Sight → Bool
same_in_functions a b = same_functions a.view.functions b.view.functions

function_itself : (a : Sight) → IsOnce a → same_in_functions a a ≡ true
function_itself a one = (functions_make_one_map a.view.functions a.view.functions one one).1 refl

-- what agreement says, and what says it
agree_types : (a b : Sight) → agree a b ≡ true → a.path ≡ b.path → same_types a b ≡ true
agree_types a b h e = search std_rules

agree_from : (a b : Sight) → (a.path ≡ b.path → same_types a b ≡ true) → (a.path ≡ b.path → a.whole ≡ true → b.whole ≡ true → same_in_functions a b ≡ true) → agree a b ≡ true
agree_from a b types functions = search std_rules

-- ---- look-ups

pub found_contains : {X : Type 0} (p : X → Bool) (xs : List X) (x : X) → find p xs ≡ Some x → (p x ≡ true) × Contains xs x
found_contains p [] x e = absurd cc
found_contains p (y ∷ ys) x e = by (p y) refl (found_contains p ys x) e
  where
    by : (b : Bool) → p y ≡ b → (find p ys ≡ Some x → (p x ≡ true) × Contains ys x) → cond b (Some y) (find p ys) ≡ Some x → (p x ≡ true) × Contains (y ∷ ys) x
    by true t more h = let same : y ≡ x = cc in (sym (ap p same) ∙ t, (0, omega arith, same))
    by false t more h = let rest = more h in (rest.0, (suc rest.1.0, (let low = rest.1.1 in omega (arith, low)), rest.1.2))

-- ---- agreement with each is agreement with the first

into : (rest earlier : List Sight) → ((x : Sight) → Contains earlier x → list_all (agree x) rest ≡ true) → all_agree rest ≡ true → agree_with_first earlier rest ≡ true
into [] earlier before all = refl
into (s ∷ rest) earlier before all = and_from (agrees_with_first earlier s) (agree_with_first (earlier ++ s ∷ []) rest)
    (and_from (option_map_or (λ f. same_types f s) (first_of s.path earlier) true) (not s.whole || option_map_or (λ f. same_in_functions f s) (first_whole s.path earlier) true)
    (types (first_of s.path earlier) refl) (implied s.whole _ (λ w. functions w (first_whole s.path earlier) refl)))
    (into rest (earlier ++ s ∷ []) (λ x c. elim (Contains-append_cases earlier (s ∷ []) x c) [
      | inl there ↦ second_true (agree x s) (list_all (agree x) rest) (before x there)
      | inr last ↦ subst (λ (y : Sight). list_all (agree y) rest ≡ true) (last_of s x last) (first_true (list_all (agree s) rest) (all_agree rest) all)
    ]) (second_true (list_all (agree s) rest) (all_agree rest) all))
  where
    agrees : (f : Sight) → Contains earlier f → agree f s ≡ true
    agrees f c = first_true (agree f s) (list_all (agree f) rest) (before f c)

    types : (o : Option Sight) → first_of s.path earlier ≡ o → option_map_or (λ f. same_types f s) o true ≡ true
    types None e = refl
    types (Some f) e = let found = found_contains (λ x. text_eq s.path x.path) earlier f e in agree_types f s (agrees f found.1) (sym (text_same s.path f.path found.0))

    functions : s.whole ≡ true → (o : Option Sight) → first_whole s.path earlier ≡ o → option_map_or (λ f. same_in_functions f s) o true ≡ true
    functions w None e = refl
    functions w (Some f) e =
        let found = found_contains (λ x. text_eq s.path x.path && x.whole) earlier f e in
        let path = text_same s.path f.path (first_true (text_eq s.path f.path) f.whole found.0) in
        (search std_rules)

-- what is known of the views so far: each is like the first of its path, and no function stands twice
record Known (earlier : List Sight) : Type 0 where
  types : (x : Sight) → Contains earlier x → (f : Sight) × (first_of x.path earlier ≡ Some f) × (same_types f x ≡ true)
  functions : (x : Sight) → Contains earlier x → x.whole ≡ true → (f : Sight) × (first_whole x.path earlier ≡ Some f) × (same_in_functions f x ≡ true)
  once : (x : Sight) → Contains earlier x → IsOnce x

module _ (earlier : List Sight) (s : Sight) (known : Known earlier) (one : IsOnce s) (agrees : agrees_with_first earlier s ≡ true) where
  with_types : (f : Sight) → first_of s.path earlier ≡ Some f → same_types f s ≡ true
  with_types f e = search std_rules

  with_functions : s.whole ≡ true → (f : Sight) → first_whole s.path earlier ≡ Some f → same_in_functions f s ≡ true
  with_functions w f e = search std_rules

  -- it agrees with each of them
  with_each : (x : Sight) → Contains earlier x → agree x s ≡ true
  with_each x c = agree_from x s (λ path.
      let first = known.types x c in
      type_join first.0 x s first.2 (with_types first.0 (ap (λ p. first_of p earlier) (sym path) ∙ first.1))) (λ path mine yours.
      let first = known.functions x c mine in
      let there = found_contains (λ y. text_eq x.path y.path && y.whole) earlier first.0 first.1 in
      (search (std_rules, functions_make_one_map)))

  -- the first that passes a test is still the first, or is the one more
  still_first : (q : Sight → Bool) (f : Sight) → find q earlier ≡ Some f → find q (earlier ++ s ∷ []) ≡ Some f
  still_first q f e = find-append q earlier (s ∷ []) ∙ ap (λ o. option_or o (find q (s ∷ []))) e

  now_first : (q : Sight → Bool) → find q earlier ≡ None → q s ≡ true → find q (earlier ++ s ∷ []) ≡ Some s
  now_first q e h = find-append q earlier (s ∷ []) ∙ (ap (λ o. option_or o (find q (s ∷ []))) e ∙ ap (λ b. cond b (Some s) None) h)

  -- and then the same is known of one more
  known_more : Known (earlier ++ s ∷ [])
  known_more = record {
    types = λ x c. elim (Contains-append_cases earlier (s ∷ []) x c) [
      | inl there ↦ (let first = known.types x there in (first.0, still_first (λ y. text_eq x.path y.path) first.0 first.1, first.2))
      | inr last ↦ subst (λ (y : Sight). (f : Sight) × (first_of y.path (earlier ++ s ∷ []) ≡ Some f) × (same_types f y ≡ true)) (last_of s x last) (own_types (first_of s.path earlier) refl)
    ];
    functions = λ x c w. elim (Contains-append_cases earlier (s ∷ []) x c) [
      | inl there ↦ (let first = known.functions x there w in (first.0, still_first (λ y. text_eq x.path y.path && y.whole) first.0 first.1, first.2))
      | inr last ↦ subst (λ (y : Sight). (f : Sight) × (first_whole y.path (earlier ++ s ∷ []) ≡ Some f) × (same_in_functions f y ≡ true)) (last_of s x last)
          (own_functions (ap (λ y. y.whole) (last_of s x last) ∙ w) (first_whole s.path earlier) refl)
    ];
    once = λ x c. elim (Contains-append_cases earlier (s ∷ []) x c) [ inl there ↦ known.once x there | inr last ↦ subst IsOnce (last_of s x last) one ];
  }
    where
      own_types : (o : Option Sight) → first_of s.path earlier ≡ o → (f : Sight) × (first_of s.path (earlier ++ s ∷ []) ≡ Some f) × (same_types f s ≡ true)
      own_types (Some f) e = (f, still_first (λ y. text_eq s.path y.path) f e, with_types f e)
      own_types None e = (s, now_first (λ y. text_eq s.path y.path) e (same_text s.path s.path refl), ((shown_types_decide s.view.types s.view.types).1 refl))

      own_functions : s.whole ≡ true → (o : Option Sight) → first_whole s.path earlier ≡ o → (f : Sight) × (first_whole s.path (earlier ++ s ∷ []) ≡ Some f) × (same_in_functions f s ≡ true)
      own_functions w (Some f) e = (f, still_first (λ y. text_eq s.path y.path && y.whole) f e, with_functions w f e)
      own_functions w None e = (s, now_first (λ y. text_eq s.path y.path && y.whole) e (and_from (text_eq s.path s.path) s.whole (same_text s.path s.path refl) w), function_itself s one)

back : (rest earlier : List Sight) → Known earlier → ((x : Sight) → Contains rest x → IsOnce x) → agree_with_first earlier rest ≡ true
    → ((x : Sight) → Contains earlier x → list_all (agree x) rest ≡ true) × (all_agree rest ≡ true)
back [] earlier known once all = (λ x c. refl, refl)
back (s ∷ rest) earlier known once all =
    let agrees = first_true (agrees_with_first earlier s) (agree_with_first (earlier ++ s ∷ []) rest) all in
    let others = second_true (agrees_with_first earlier s) (agree_with_first (earlier ++ s ∷ []) rest) all in
    let one = once s (0, omega arith, refl) in
    let more = back rest (earlier ++ s ∷ []) (known_more earlier s known one agrees) (λ x c. once x (suc c.0, (let low = c.1 in omega (arith, low)), c.2)) others in (
      λ x c. and_from (agree x s) (list_all (agree x) rest) (with_each earlier s known one agrees x c) (more.0 x (Contains-append_left earlier (s ∷ []) x c)),
      and_from (list_all (agree s) rest) (all_agree rest) (more.0 s (Contains-append_right earlier (s ∷ []) s (0, omega arith, refl))) more.1,
    )

-- ---- views of interfaces

pub distinct_behind : (xs ys : List Text) → distinct (xs ++ ys) ≡ true → distinct ys ≡ true
distinct_behind [] ys e = e
distinct_behind (x ∷ xs) ys e = distinct_behind xs ys (second_true (not (list_any (text_eq x) (xs ++ ys))) (distinct (xs ++ ys)) e)

interfaces_once : (seen : List Sight) → are_interfaces seen ≡ true → (x : Sight) → Contains seen x → IsOnce x
interfaces_once seen e x c =
    let interface = all-contained (λ (s : Sight). is_interface (Place.of_interface s.path) s.view) seen x e c in
    distinct_behind (map (λ t. t.name) x.view.types) (map (λ f. f.0) x.view.functions) (second_true _ (distinct (map (λ t. t.name) x.view.types ++ map (λ f. f.0) x.view.functions)) interface)

pub first_agrees : FirstAgrees
first_agrees seen interfaces = either_way (all_agree seen) (agree_with_first [] seen) (λ all. into seen [] (λ x c. absurd (none_contained x c)) all)
    (λ all. (back seen [] (record { types = λ x c. absurd (none_contained x c); functions = λ x c w. absurd (none_contained x c); once = λ x c. absurd (none_contained x c) })
    (interfaces_once seen interfaces) all).1)
