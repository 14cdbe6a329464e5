-- Functions that are sorted by the places of their resources.
use Rattle.std.proofs.Common.{rules as std_rules, ◌≡◌, refl, sym, subst, ap, ◌∙◌, ℕ, zero, suc, ◌+◌, ◌<◌, ◌≤◌, Bool, true, false, cond, List, [], ◌∷◌, ◌++◌, length, get_or, filter, map, nat_cmp, is_lt, Option, Some, None, arith, suc-le-suc, zero-le}
use Rattle.std.proofs.lemmas.{Iterator.Adapters.position_from-zero, List.Sums.prefix_len-le-length, Bool.Decides.nat_tests, List.nil_from_length as no-more}
use Rattle.std.proofs.lemmas.Bool.{eqb-true, true≢false, not_from_false as opposite, not_from_true as negated, cond-true, cond-false, cases_Bool}
use Rattle.std.proofs.lemmas.List.{Elements.filter_agree, Elements.All-head, Elements.All-tail, Sorted.length_permutation, Sorted.All-permutation}
use Rattle.std.specs.Prelude.{not, nat_eq, All, IsPermutation, String}
use Rattle.std.specs.{Borrow.Bor, Option.option_map_or, Option.is_some, BTreeMap.BTreeMap, BTreeMap.get, BTreeMap.Updates, List.position, List.position_from, List.position_or_len, List.Sorted.ties, List.Sorted.IsNonDecreasingBy, List.Sorted.IsStableByKey}
use Rattle.std.specs.declared.alloc.Global.{Global}
use Rattle.wit_model.specs.{Text.Text, Lookup.resource_of}
use Rattle.wit_model.specs.declared.model.{TypeId.TypeId, Function.Function}
use Rattle.wit_encode.specs.{Instance.placed_function, Order.any_of_resource, Order.is_function_of, Order.by_resource, Order.place_among, Order.ArePlaces}
use Rattle.base_lemmas.proofs.{Bools.first_false, Bools.second_false, Lists.filter_all as filter-all}

-- ---- lists that rise

abbrev AreAtLeast : {X : Type 0} → (X → ℕ) → ℕ → List X → Type 0
AreAtLeast key n [] = Unit {0}
AreAtLeast key n (y ∷ ys) = (n ≤ key y) × AreAtLeast key n ys

abbrev pub Rises : {X : Type 0} → (X → ℕ) → List X → Type 0
Rises key [] = Unit {0}
Rises key (y ∷ ys) = AreAtLeast key (key y) ys × Rises key ys

at-least-from : {X : Type 0} (key : X → ℕ) (n : ℕ) (ys : List X) → ((j : ℕ) (d : X) → j < length ys → n ≤ key (get_or ys j d)) → AreAtLeast key n ys
at-least-from key n [] h = tt
at-least-from key n (y ∷ ys) h = (h zero y (suc-le-suc zero-le), at-least-from key n ys (λ j d l. h (suc j) d (suc-le-suc l)))

pub rises-from : {X : Type 0} (key : X → ℕ) (ys : List X) → IsNonDecreasingBy key ys → Rises key ys
rises-from key [] h = tt
rises-from key (y ∷ ys) h = (at-least-from key (key y) ys (λ j d l. h zero (suc j) d zero-le (suc-le-suc l)), rises-from key ys (λ i j d le l. h (suc i) (suc j) d (suc-le-suc le) (suc-le-suc l)))

kept : {X : Type 0} (p : X → Bool) (y : X) (ys : List X) → p y ≡ true → filter p (y ∷ ys) ≡ y ∷ filter p ys
kept p y ys h = cond-true _ _ _ h

dropped : {X : Type 0} (p : X → Bool) (y : X) (ys : List X) → p y ≡ false → filter p (y ∷ ys) ≡ filter p ys
dropped p y ys h = cond-false _ _ _ h

-- ---- a first class and the rest

module _ {X : Type 0} (key key' : X → ℕ) (p : X → Bool) (first : (x : X) → p x ≡ true → key x ≡ 0) (later : (x : X) → p x ≡ false → key x ≡ 1 + key' x) where
  rest : X → Bool
  rest x = not (p x)

  none-first : (n : ℕ) (ys : List X) → 0 < n → AreAtLeast key n ys → filter p ys ≡ []
  none-first n [] l h = refl
  none-first n (y ∷ ys) l h = search (std_rules, cases_Bool, dropped, none-first n ys l h.1)

  all-later : (n : ℕ) (ys : List X) → 0 < n → AreAtLeast key n ys → filter (λ x. not (p x)) ys ≡ ys
  all-later n [] l h = refl
  all-later n (y ∷ ys) l h = search (std_rules, cases_Bool, kept, opposite, all-later n ys l h.1)

  split : (ys : List X) → Rises key ys → ys ≡ filter p ys ++ filter (λ x. not (p x)) ys
  split [] h = refl
  split (y ∷ ys) h = search (std_rules, cases_Bool, kept, dropped, negated, none-first, opposite, all-later, split ys h.1)

  at-least-later : (n : ℕ) (ys : List X) → AreAtLeast key (1 + n) ys → AreAtLeast key' n (filter (λ x. not (p x)) ys)
  at-least-later n [] h = tt
  at-least-later n (y ∷ ys) h = search (std_rules, cases_Bool, kept, opposite, at-least-later n ys h.1)

  rises-later : (ys : List X) → Rises key ys → Rises key' (filter (λ x. not (p x)) ys)
  rises-later [] h = tt
  rises-later (y ∷ ys) h = search (std_rules, cases_Bool, dropped, negated, kept, opposite, at-least-later, rises-later ys h.1)

  class-first : (x : X) → p x ≡ nat_eq 0 (key x)
  class-first x = search std_rules

  class-later : (k : ℕ) (ys : List X) → filter (λ x. nat_eq k (key' x)) (filter (λ x. not (p x)) ys) ≡ filter (λ x. nat_eq (1 + k) (key x)) ys
  class-later k [] = refl
  class-later k (y ∷ ys) = search (std_rules, cases_Bool, dropped, negated, nat_tests, kept, opposite, class-later k ys)

-- ---- by resource

place-first : (t : TypeId) (ts : List TypeId) (f : Text × Function) → is_function_of t f ≡ true → place_among (t ∷ ts) f.1 ≡ 0
place-first t ts f e = cond-false _ _ _ (negated (is_function_of t f) e)

place-later : (t : TypeId) (ts : List TypeId) (f : Text × Function) → is_function_of t f ≡ false → place_among (t ∷ ts) f.1 ≡ 1 + place_among ts f.1
place-later t ts f e = cond-true _ _ _ (opposite (is_function_of t f) e)

-- a list that rises by place and has the classes of xs is xs in order
pub in-order : (ts : List TypeId) (xs ys : List (Text × Function)) → Rises (λ f. place_among ts f.1) ys
    → ((k : ℕ) → filter (λ f. nat_eq k (place_among ts f.1)) ys ≡ filter (λ f. nat_eq k (place_among ts f.1)) xs) → ys ≡ by_resource ts xs
in-order [] xs ys up same = sym (filter-all ys) ∙ same 0 ∙ filter-all xs
in-order (t ∷ ts) xs ys up same =
    let key : Text × Function → ℕ = λ f. place_among (t ∷ ts) f.1 in
    let key' : Text × Function → ℕ = λ f. place_among ts f.1 in
    let p : Text × Function → Bool = is_function_of t in
    let a : filter p ys ≡ filter p xs = filter_agree p (λ f. nat_eq 0 (key f)) (class-first key key' p (place-first t ts) (place-later t ts)) ys ∙ same 0
    ∙ sym (filter_agree p (λ f. nat_eq 0 (key f)) (class-first key key' p (place-first t ts) (place-later t ts)) xs) in
    let b : filter (λ f. not (p f)) ys ≡ by_resource ts (filter (λ f. not (p f)) xs) =
    in-order ts (filter (λ f. not (p f)) xs) (filter (λ f. not (p f)) ys) (rises-later key key' p (place-first t ts) (place-later t ts) ys up)
    (λ k. class-later key key' p (place-first t ts) (place-later t ts) k ys ∙ same (1 + k) ∙ sym (class-later key key' p (place-first t ts) (place-later t ts) k xs)) in
    split key key' p (place-first t ts) (place-later t ts) ys up ∙ (λ i. a i ++ b i)

-- where no function is of a resource, the order is that of the list
pub in-list-order : (ts : List TypeId) (fs : List (Text × Function)) → any_of_resource fs ≡ false → by_resource ts fs ≡ fs
in-list-order [] fs h = refl
in-list-order (t ∷ ts) fs h = ap (λ xs. xs ++ by_resource ts (filter (λ f. not (is_function_of t f)) fs)) (none fs h) ∙ ap (by_resource ts) (others fs h) ∙ in-list-order ts fs h
  where
    without : (f : Text × Function) (o : Option ℕ) → resource_of f.1.kind ≡ o → is_some o ≡ false → is_function_of t f ≡ false
    without f None e h = ap (λ o. option_map_or (λ n. nat_eq n t.0) o false) e
    without f (Some n) e h = absurd (true≢false h)

    head-without : (f : Text × Function) (fs : List (Text × Function)) → any_of_resource (f ∷ fs) ≡ false → is_function_of t f ≡ false
    head-without f fs h = without f (resource_of f.1.kind) refl (first_false (is_some (resource_of f.1.kind)) (any_of_resource fs) h)

    none : (fs : List (Text × Function)) → any_of_resource fs ≡ false → filter (is_function_of t) fs ≡ []
    none [] h = refl
    none (f ∷ fs) h = dropped (is_function_of t) f fs (head-without f fs h) ∙ none fs (second_false (is_some (resource_of f.1.kind)) (any_of_resource fs) h)

    others : (fs : List (Text × Function)) → any_of_resource fs ≡ false → filter (λ f. not (is_function_of t f)) fs ≡ fs
    others [] h = refl
    others (f ∷ fs) h = kept (λ f. not (is_function_of t f)) f fs (opposite (is_function_of t f) (head-without f fs h)) ∙ ap (λ xs. f ∷ xs)
        (others fs (second_false (is_some (resource_of f.1.kind)) (any_of_resource fs) h))

-- ---- functions with their places

abbrev Placed : Type 0
Placed = ℕ × Bor (String Global) × Bor Function

-- each place is that of the resource
abbrev pub ArePlaced : List TypeId → List Placed → Type 0
ArePlaced ts [] = Unit {0}
ArePlaced ts (x ∷ xs) = (x.0 ≡ place_among ts x.2.now) × ArePlaced ts xs

at-least-placed : (ts : List TypeId) (n : ℕ) (xs : List Placed) → ArePlaced ts xs → AreAtLeast (λ x. x.0) n xs → AreAtLeast (λ f. place_among ts f.1) n (map placed_function xs)
at-least-placed ts n [] h up = tt
at-least-placed ts n (x ∷ xs) h up = (subst (λ m. n ≤ m) h.0 up.0, at-least-placed ts n xs h.1 up.1)

rises-placed : (ts : List TypeId) (xs : List Placed) → ArePlaced ts xs → Rises (λ x. x.0) xs → Rises (λ f. place_among ts f.1) (map placed_function xs)
rises-placed ts [] h up = tt
rises-placed ts (x ∷ xs) h up = search (std_rules, at-least-placed, rises-placed ts xs h.1 up.1)

class-placed : (ts : List TypeId) (k : ℕ) (xs : List Placed) → ArePlaced ts xs
    → filter (λ f. nat_eq k (place_among ts f.1)) (map placed_function xs) ≡ map placed_function (filter (λ x. nat_eq k x.0) xs)
class-placed ts k [] h = refl
class-placed ts k (x ∷ xs) h = search (std_rules, cases_Bool, cond-true, kept, cond-false, dropped, class-placed ts k xs h.1)

tied : (m n : ℕ) → ties (λ x y. is_lt (nat_cmp x y)) m n ≡ nat_eq m n
tied m n = grind (arith, nat_tests)

classes : (xs ys : List Placed) → length ys ≡ length xs → IsStableByKey (λ x. x.0) nat_cmp xs ys → (k : ℕ) → filter (λ x. nat_eq k x.0) ys ≡ filter (λ x. nat_eq k x.0) xs
classes [] ys l stable k = ap (filter (λ (x : Placed). nat_eq k x.0)) (no-more ys l)
classes (x ∷ xs) ys l stable k =
    let at : Placed = (k, x.1, x.2) in
    let agree : (zs : List Placed) → filter (ties (λ (a b : Placed). is_lt (nat_cmp a.0 b.0)) at) zs ≡ filter (λ z. nat_eq k z.0) zs =
    filter_agree (ties (λ (a b : Placed). is_lt (nat_cmp a.0 b.0)) at) (λ z. nat_eq k z.0) (λ z. tied k z.0) in
    sym (agree ys) ∙ stable at ∙ agree (x ∷ xs)

placed-all : (ts : List TypeId) (xs : List Placed) → All (λ x. x.0 ≡ place_among ts x.2.now) xs → ArePlaced ts xs
placed-all ts [] h = tt
placed-all ts (x ∷ xs) h = (All-head (λ (y : Placed). y.0 ≡ place_among ts y.2.now) x xs h, placed-all ts xs (All-tail (λ (y : Placed). y.0 ≡ place_among ts y.2.now) x xs h))

-- a stable sort by their places puts functions in order
pub sorted-in-order : (ts : List TypeId) (xs ys : List Placed) → All (λ x. x.0 ≡ place_among ts x.2.now) xs → IsPermutation xs ys → IsNonDecreasingBy (λ x. x.0) ys
    → IsStableByKey (λ x. x.0) nat_cmp xs ys → map placed_function ys ≡ by_resource ts (map placed_function xs)
sorted-in-order ts xs ys h moved up stable =
    let hx = placed-all ts xs h in
    let hy = placed-all ts ys (All-permutation (λ (x : Placed). x.0 ≡ place_among ts x.2.now) xs ys moved h) in
    in-order ts (map placed_function xs) (map placed_function ys) (rises-placed ts ys hy (rises-from (λ (x : Placed). x.0) ys up))
    (λ k. class-placed ts k ys hy ∙ ap (map placed_function) (classes xs ys (length_permutation xs ys moved) stable k) ∙ sym (class-placed ts k xs hx))

-- ---- places

from-push : {X : Type 0} (p : X → Bool) (i : ℕ) (xs : List X) (y : X) → position_from p i (xs ++ y ∷ []) ≡ cond (is_some (position_from p i xs))
    (position_from p i xs) (cond (p y) (Some (i + length xs)) None)
from-push p i [] y = ap (λ n. cond (p y) (Some n) None) (omega arith)
from-push p i (x ∷ xs) y = search (std_rules, cases_Bool, cond-true, cond-false, from-push p (i + 1) xs y)

pub position-push : {X : Type 0} (p : X → Bool) (xs : List X) (y : X) → position p (xs ++ y ∷ []) ≡ cond (is_some (position p xs)) (position p xs) (cond (p y) (Some (length xs)) None)
position-push p xs y = search (std_rules, position_from-zero, from-push)

pub position-none : {X : Type 0} (p : X → Bool) (xs : List X) → position p xs ≡ None → length xs ≡ position_or_len p xs
position-none p xs h = search (std_rules, cases_Bool, cond-true, prefix_len-le-length, nat_tests)

none-among : (ts : List TypeId) → length ts ≡ position_or_len (λ t. false) ts
none-among [] = refl
none-among (t ∷ ts) = omega (arith, none-among ts)

-- the places of one more type, where its number has none yet
module _ (ts : List TypeId) (places : BTreeMap ℕ ℕ) (t : TypeId) (h : ArePlaces ts places) where
  number-push : (n : ℕ) → position (λ s. nat_eq n s.0) (ts ++ t ∷ []) ≡ cond (is_some (get nat_cmp places n)) (get nat_cmp places n) (cond (nat_eq n t.0) (Some (length ts)) None)
  number-push n = position-push (λ s. nat_eq n s.0) ts t ∙ ap (λ o. cond (is_some o) o (cond (nat_eq n t.0) (Some (length ts)) None)) (sym (h.at n))

  -- it has one
  pub places-same : is_some (get nat_cmp places t.0) ≡ true → ArePlaces (ts ++ t ∷ []) places
  places-same there = search (std_rules, number-push, cases_Bool, true≢false, eqb-true, cond-false)

  -- it gets this one
  pub places-more : (places' : BTreeMap ℕ ℕ) → is_some (get nat_cmp places t.0) ≡ false → Updates nat_cmp places places' t.0 (Some (length ts)) → ArePlaces (ts ++ t ∷ []) places'
  places-more places' lacks u = search (std_rules, cases_Bool, true≢false, eqb-true, number-push, cond-true, nat_tests, cond-false)

-- ---- the place of a function

module _ (ts : List TypeId) (places : BTreeMap ℕ ℕ) (f : Function) (h : ArePlaces ts places) where
  pub place-missing : (n : ℕ) → resource_of f.kind ≡ Some n → get nat_cmp places n ≡ None → length ts ≡ place_among ts f
  place-missing n e g = search (std_rules, position-none)

  pub place-without : resource_of f.kind ≡ None → length ts ≡ place_among ts f
  place-without e = none-among ts ∙ ap (λ o. position_or_len (λ (t : TypeId). option_map_or (λ k. nat_eq k t.0) o false) ts) (sym e)
