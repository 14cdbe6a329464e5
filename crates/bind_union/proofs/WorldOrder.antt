-- What an item of a world uses stands before it where its copy stands, too, and an interface or a type is an item there as often.
use Rattle.std.proofs.Common.{rules as std_rules, ◌≡◌, refl, sym, ap, subst, ◌∙◌, ℕ, Bool, true, false, ◌||◌, ◌==◌, List, [], ◌∷◌, ◌++◌, append_assoc, map, filter, Option, Some, None, option_map, option_to_list, filter_map, zero, suc, ◌≤◌, ◌+◌, arith, cond, ltb-true, length, slice_get}
use Rattle.std.proofs.lemmas.{Bool.or_left, Bool.or_right, Bool.and_from as both, Bool.false_from_ne_true, List.Folds.list_all-map, List.Folds.list_any-append, List.Elements.filter_map-append, List.Sums.sum_by-cons, List.Sums.sum_by-append, List.map-append, Option.same_Some as same-some}
use Rattle.std.specs.{List.list_all, List.Contains, List.cons_option, Prelude.count_by, Prelude.sum_by}
use Rattle.wit_model.specs.declared.model.{Resolve.Resolve, WorldKey.WorldKey, WorldItem.WorldItem, World.World}
use Rattle.wit_model.specs.{Parts.has_owner, Parts.used_by_function, Checks.references, Uses.has, Uses.item_interface, Uses.direct_deps, Uses.interface_used_by, Valid.Keeps, Valid.KeepsRules, Valid.as_world}
use Rattle.wit_model.specs.Rules.{passes, is_id, each_after, item_type, used_by_number, used_interfaces, used_types, uses_stand_before, in_list, times_shown, item_in_range, entries_in_range}
use Rattle.wit_model.proofs.{Elements.contains-has, Elements.contains-filter_map, Owners.all_filter, Lists.list_all_filter_map, Chains.all_has as passes_at}
use Rattle.wit_model.proofs.RulesLemmas.{is_id_some}
use Rattle.bind_union.specs.Carried.{Renumbering, ItemBecomes, EntryBecomes, IsCarried}
use Rattle.bind_union.specs.Joined.{ItemStandsFor, Joined, none, met, added}
use Rattle.bind_union.proofs.{Homes.owner_back, CopyRules.function_uses, ViewTests.id_under, Lists.no_true}
use Rattle.bind_union.proofs.InterfaceRules.{implied_all, deps_there, interface_used_there, given_contains, number_uses}
use Rattle.base_lemmas.proofs.Bools.{left_of as first_true, right_of as second_true, or_false, first_false, second_false}
use Rattle.base_lemmas.proofs.{Elements.all_weaker, Elements.contains-map, Numbers.differ, Numbers.same-number, Numbers.unequal}
use Rattle.wit_model.specs.declared.model.WorldItem.TheVariants as item

abbrev pub items : List (WorldKey × WorldItem) → List WorldItem
items es = map (λ (e : WorldKey × WorldItem). e.1) es

-- ---- the numbers that items have

pub numbers_append : (h : WorldItem → Option ℕ) (xs ys : List WorldItem) (m : ℕ) → has (filter_map h (xs ++ ys)) m ≡ (has (filter_map h xs) m || has (filter_map h ys) m)
numbers_append h xs ys m = ap (λ ns. has ns m) (filter_map-append h xs ys) ∙ list_any-append (λ n. n == m) (filter_map h xs) (filter_map h ys)

pub numbers_cons : (h : WorldItem → Option ℕ) (x : WorldItem) (xs : List WorldItem) (m : ℕ) → has (filter_map h (x ∷ xs)) m ≡ (is_id m (h x) || has (filter_map h xs) m)
numbers_cons h x xs m = search std_rules

numbers_end : (h : WorldItem → Option ℕ) (xs : List WorldItem) (x : WorldItem) (m : ℕ) → has (filter_map h (xs ++ x ∷ [])) m ≡ (has (filter_map h xs) m || is_id m (h x))
numbers_end h xs x m = numbers_append h xs (x ∷ []) m ∙ ap (λ b. has (filter_map h xs) m || b) (numbers_cons h x [] m ∙ or_false (is_id m (h x)))

pub numbers_left : (h : WorldItem → Option ℕ) (xs ys : List WorldItem) (m : ℕ) → has (filter_map h xs) m ≡ true → has (filter_map h (xs ++ ys)) m ≡ true
numbers_left h xs ys m e = numbers_append h xs ys m ∙ or_left (has (filter_map h xs) m) (has (filter_map h ys) m) e

pub numbers_right : (h : WorldItem → Option ℕ) (xs ys : List WorldItem) (m : ℕ) → has (filter_map h ys) m ≡ true → has (filter_map h (xs ++ ys)) m ≡ true
numbers_right h xs ys m e = numbers_append h xs ys m ∙ or_right (has (filter_map h xs) m) (has (filter_map h ys) m) e

pub number_in : (h : WorldItem → Option ℕ) (own : List (WorldKey × WorldItem)) (x : WorldKey × WorldItem) → Contains own x → (m : ℕ) → is_id m (h x.1) ≡ true → has (filter_map h (items own)) m ≡ true
number_in h own x c m e = contains-has (filter_map h (items own)) m (contains-filter_map h (items own) x.1 m (contains-map (λ (y : WorldKey × WorldItem). y.1) own x c)
    (given_contains (h x.1) m (is_id_some m (h x.1) e)))

-- a test on the numbers, entry by entry
pub by_items : (h : WorldItem → Option ℕ) (p : ℕ → Bool) (es : List (WorldKey × WorldItem))
    → list_all p (filter_map h (items es)) ≡ list_all (λ (e : WorldKey × WorldItem). list_all p (option_to_list (h e.1))) es
by_items h p es = list_all_filter_map p h (items es) ∙ list_all-map (λ i. list_all p (option_to_list (h i))) (λ (e : WorldKey × WorldItem). e.1) es

-- ---- under new numbers

-- Interfaces or types: which an item has, their new numbers, and which of them may stand in an item that is copied.
pub record Numbered (f : Renumbering) : Type 0 where
  pub number : WorldItem → Option ℕ
  pub under : ℕ → ℕ
  pub marks : ℕ → Bool
  pub stands : (i j : WorldItem) → ItemStandsFor f i j → number j ≡ option_map under (number i)
  pub marked : (i j : WorldItem) → ItemBecomes f i j → passes marks (number i) ≡ true

module _ (f : Renumbering) where
  abbrev pub interfaces_in : Numbered f
  interfaces_in = record { number = item_interface; under = f.interfaces; marks = f.carries_interface; stands = stands; marked = marked }
    where
      stands : (i j : WorldItem) → ItemStandsFor f i j → item_interface j ≡ option_map f.interfaces (item_interface i)
      stands x y z = search std_rules

      marked : (i j : WorldItem) → ItemBecomes f i j → passes f.carries_interface (item_interface i) ≡ true
      marked x y z = search std_rules

  abbrev pub types_in : Numbered f
  types_in = record { number = item_type; under = f.types; marks = f.copies_type; stands = stands; marked = marked }
    where
      stands : (i j : WorldItem) → ItemStandsFor f i j → item_type j ≡ option_map f.types (item_type i)
      stands x y z = search std_rules

      marked : (i j : WorldItem) → ItemBecomes f i j → passes f.copies_type (item_type i) ≡ true
      marked x y z = search std_rules

  -- a copy stands for what it copies
  pub becomes : (i j : WorldItem) → ItemBecomes f i j → ItemStandsFor f i j
  becomes x y z = search std_rules

  pub id_stands : (s : Numbered f) (i j : WorldItem) → ItemStandsFor f i j → (m : ℕ) → is_id m (s.number i) ≡ true → is_id (s.under m) (s.number j) ≡ true
  id_stands s i j z m h = ap (is_id (s.under m)) (s.stands i j z) ∙ id_under s.under m (s.number i) h

-- ---- what stands before

-- all interfaces and types of the one list stand, under their new numbers, in the other
abbrev pub Covers : Renumbering → List WorldItem → List WorldItem → Type 0
Covers f olds news = (s : Numbered f) (m : ℕ) → has (filter_map s.number olds) m ≡ true → has (filter_map s.number news) (s.under m) ≡ true

-- each of these entries stands in the list
abbrev pub Holds : List (WorldKey × WorldItem) → List WorldItem → Type 0
Holds own news = (h : WorldItem → Option ℕ) (x : WorldKey × WorldItem) → Contains own x → (m : ℕ) → is_id m (h x.1) ≡ true → has (filter_map h news) m ≡ true

either : (a b : Bool) → (a || b) ≡ true → {P : Type 0} → (a ≡ true → P) → (b ≡ true → P) → P
either x b h p q = search std_rules

module _ (f : Renumbering) where
  covers_met : (olds news : List WorldItem) (own : List (WorldKey × WorldItem)) (old there : WorldKey × WorldItem) → Contains own there → ItemStandsFor f old.1 there.1 → Holds own news
      → Covers f olds news → Covers f (olds ++ old.1 ∷ []) news
  covers_met olds news own old there c stands holds covers s m e = either _ _ (sym (numbers_end s.number olds old.1 m) ∙ e) (covers s m)
      (λ d. holds s.number there c (s.under m) (id_stands f s old.1 there.1 stands m d))

  covers_added : (olds news : List WorldItem) (old new : WorldItem) → ItemBecomes f old new → Covers f olds news → Covers f (olds ++ old ∷ []) (news ++ new ∷ [])
  covers_added olds news old new z covers s m e = numbers_end s.number news new (s.under m)
      ∙ either _ _ (sym (numbers_end s.number olds old m) ∙ e) (λ d. or_left _ _ (covers s m d)) (λ d. or_right _ _ (id_stands f s old new (becomes f old new z) m d))

  -- A test that is carried along item by item is carried along the list.
  pub walk : (own : List (WorldKey × WorldItem)) (t u : List WorldItem → WorldItem → Bool)
      → ((olds news : List WorldItem) (old new : WorldKey × WorldItem) → EntryBecomes f old new → Covers f olds news → t olds old.1 ≡ true → u news new.1 ≡ true)
      → (olds news : List WorldItem) (xs ys : List (WorldKey × WorldItem)) → Joined f own xs ys → Holds own news → Covers f olds news → each_after t olds (items xs) ≡ true
      → (each_after u news (items ys) ≡ true) × Covers f (olds ++ items xs) (news ++ items ys)
  walk own t u one olds news _ _ none holds covers h = search std_rules
  walk own t u one olds news _ _ (met old there xs ys c k i rest) holds covers h = search (
    std_rules,
    covers_met,
    second_true,
    append_assoc,
    walk own t u one (olds ++ old.1 ∷ []) news xs ys rest holds (covers_met olds news own old there c i holds covers) (second_true (t olds old.1) _ h),
  )
  walk own t u one olds news _ _ (added old new xs ys n z rest) holds covers h =
      let more = walk own t u one (olds ++ old.1 ∷ []) (news ++ new.1 ∷ []) xs ys rest
      (λ h x c m e. numbers_left h news (new.1 ∷ []) m (holds h x c m e)) (covers_added olds news old.1 new.1 z.1 covers) (second_true (t olds old.1) _ h) in (
        both _ _ (one olds news old new z covers (first_true _ _ h)) more.0,
        subst (λ (zs : List WorldItem). Covers f zs (news ++ (new.1 ∷ items ys))) (append_assoc olds (old.1 ∷ []) (items xs))
            (subst (λ (zs : List WorldItem). Covers f ((olds ++ old.1 ∷ []) ++ items xs) zs) (append_assoc news (new.1 ∷ []) (items ys)) more.1),
      )

-- ---- what a copy uses stands before it

module _ (r s : Resolve) (f : Renumbering) (valid : KeepsRules r) (is : IsCarried r s f) (below_s : Keeps references s) (w : ℕ) (carries : f.carries_world w ≡ true) where
  world_types : (p q : ℕ → Bool) → ((m : ℕ) → p m ≡ true → q (f.types m) ≡ true) → (used : List ℕ) → list_all f.carries_type used ≡ true → list_all p (filter (has_owner r (as_world w)) used) ≡ true
      → list_all q (filter (has_owner s (as_world (f.worlds w))) (map f.types used)) ≡ true
  world_types p q one used c h = all_filter q (has_owner s (as_world (f.worlds w))) (map f.types used)
      ∙ implied_all f.types f.carries_type (has_owner r (as_world w)) p (has_owner s (as_world (f.worlds w))) q
      (λ n d k. owner_back r s f valid is below_s (as_world w) n carries d k) one used c (sym (all_filter p (has_owner r (as_world w)) used) ∙ h)

  pub item_stands : (olds news : List WorldItem) (old new : WorldKey × WorldItem) → EntryBecomes f old new → Covers f olds news → uses_stand_before r w olds old.1 ≡ true
      → uses_stand_before s (f.worlds w) news new.1 ≡ true
  item_stands olds news (k, item.Interface a st docs ext) (l, item.Interface b st2 docs2 ext2) z covers h = both _ _
      (ap (λ x. list_all (has (filter_map item_interface news)) (direct_deps s x)) z.1.0
      ∙ deps_there r s f valid is below_s a.0 z.1.1 (has (filter_map item_interface news)) (has (filter_map item_interface olds)) (λ m c e. covers (interfaces_in f) m e) (first_true _ _ h)) refl
  item_stands olds news (k, item.Function g) (l, item.Function e) z covers h =
      let uses = function_uses r s f valid is below_s g e z.1 in
      both _ _ refl (ap (λ x. list_all (has (filter_map item_type news)) (filter (has_owner s (as_world (f.worlds w))) x)) uses.0
      ∙ world_types (has (filter_map item_type olds)) (has (filter_map item_type news)) (covers (types_in f)) (used_by_function r g) uses.1 h)
  item_stands olds news (k, item.Type_ a) (l, item.Type_ b) z covers h =
      let uses = number_uses r s f valid is below_s a.0 z.1.1 in
      let from = interface_used_there r s f valid is below_s a.0 (is.copied_types a.0 z.1.1) in
      both _ _ (ap (λ x. list_all (has (filter_map item_interface news)) (option_to_list (interface_used_by s x))) z.1.0
      ∙ (ap (λ o. list_all (has (filter_map item_interface news)) (option_to_list o)) from.0 ∙ target (interface_used_by r a.0) (first_true _ _ h)))
      (ap (λ x. list_all (has (filter_map item_type news)) (filter (has_owner s (as_world (f.worlds w))) (used_by_number s x))) z.1.0
      ∙ (ap (λ x. list_all (has (filter_map item_type news)) (filter (has_owner s (as_world (f.worlds w))) x)) uses.0
      ∙ world_types (has (filter_map item_type olds)) (has (filter_map item_type news)) (covers (types_in f)) (used_by_number r a.0) uses.1
      (second_true (list_all (has (filter_map item_interface olds)) (option_to_list (interface_used_by r a.0))) _ h)))
    where
      target : (o : Option ℕ) → list_all (has (filter_map item_interface olds)) (option_to_list o) ≡ true
          → list_all (has (filter_map item_interface news)) (option_to_list (option_map f.interfaces o)) ≡ true
      target None e = refl
      target (Some m) e = both _ _ (covers (interfaces_in f) m (first_true _ _ e)) refl
  item_stands olds news _ _ z covers h = absurd z.1

-- ---- more before

pub stands_still : (s : Resolve) (w : ℕ) (before more : List WorldItem) → ((h : WorldItem → Option ℕ) (m : ℕ) → has (filter_map h before) m ≡ true → has (filter_map h more) m ≡ true)
    → (xs : List WorldItem) → each_after (uses_stand_before s w) before xs ≡ true → each_after (uses_stand_before s w) more xs ≡ true
stands_still s w before more all [] h = refl
stands_still s w before more all (x ∷ xs) h = both _ _ (both _ _ (all_weaker _ _ (all item_interface) (used_interfaces s x) (first_true _ _ now))
    (all_weaker _ _ (all item_type) (used_types s w x) (second_true (list_all (has (filter_map item_interface before)) (used_interfaces s x)) _ now)))
    (stands_still s w (before ++ x ∷ []) (more ++ x ∷ []) grown xs (second_true (uses_stand_before s w before x) _ h))
  where
    now : uses_stand_before s w before x ≡ true
    now = first_true _ _ h

    grown : (g : WorldItem → Option ℕ) (m : ℕ) → has (filter_map g (before ++ x ∷ [])) m ≡ true → has (filter_map g (more ++ x ∷ [])) m ≡ true
    grown g m e = either _ _ (sym (numbers_append g before (x ∷ []) m) ∙ e) (λ d. numbers_left g more (x ∷ []) m (all g m d)) (numbers_right g more (x ∷ []) m)

-- ---- sums of which one is one

module _ {X : Type 0} (g : X → ℕ) where
  pub none_sums : (xs : List X) → ((k : ℕ) (x : X) → slice_get xs k ≡ Some x → g x ≡ 0) → sum_by g xs ≡ 0
  none_sums [] h = refl
  none_sums (x ∷ xs) h = let a = sum_by-cons g x xs in let b = h 0 x refl in let c = none_sums xs (λ k y e. h (suc k) y e) in a ∙ omega (arith, b, c)

  pub one_sums : (xs : List X) (k : ℕ) (x : X) → slice_get xs k ≡ Some x → g x ≡ 1 → ((m : ℕ) (y : X) → slice_get xs m ≡ Some y → (m == k) ≡ false → g y ≡ 0) → sum_by g xs ≡ 1
  one_sums [] k x e one h = absurd cc
  one_sums (z ∷ xs) zero x e one h = sum_by-cons g z xs ∙ (λ i. (ap g (same-some z x e) ∙ one) i + none_sums xs (λ k y d. h (suc k) y d (unequal (suc k) 0 (λ s. omega (arith, s)))) i)
  one_sums (z ∷ xs) (suc k) x e one h = sum_by-cons g z xs
      ∙ (λ i. h 0 z refl (unequal 0 (suc k) (λ s. omega (arith, s))) i + one_sums xs k x e one (λ m y d n. h (suc m) y d (unequal (suc m) (suc k) (λ s. differ m k n (omega (arith, s))))) i)

  -- where the sum is one, one element is
  pub one_of_sum : (xs : List X) → sum_by g xs ≡ 1 → (k : ℕ) × (x : X) × (slice_get xs k ≡ Some x) × (g x ≡ 1) × ((m : ℕ) (y : X) → slice_get xs m ≡ Some y → (m == k) ≡ false → g y ≡ 0)
  one_of_sum [] h = absurd (omega (arith, h))
  one_of_sum (z ∷ xs) h = go (one_of_sum xs) (g z) refl (sym (sum_by-cons g z xs) ∙ h)
    where
      nothing : (ys : List X) → sum_by g ys ≡ 0 → (m : ℕ) (y : X) → slice_get ys m ≡ Some y → g y ≡ 0
      nothing [] h m y e = absurd cc
      nothing (w ∷ ys) h zero y e = let a = sum_by-cons g w ys in sym (ap g (same-some w y e)) ∙ omega (arith, a, h)
      nothing (w ∷ ys) h (suc m) y e = let a = sum_by-cons g w ys in nothing ys (omega (arith, a, h)) m y e

      rest : g z ≡ 0 → (r : (k : ℕ) × (x : X) × (slice_get xs k ≡ Some x) × (g x ≡ 1) × ((m : ℕ) (y : X) → slice_get xs m ≡ Some y → (m == k) ≡ false → g y ≡ 0)) → (m : ℕ) (y : X)
          → slice_get (z ∷ xs) m ≡ Some y → (m == suc r.0) ≡ false → g y ≡ 0
      rest e r x y d n = search std_rules

      head_only : sum_by g xs ≡ 0 → (m : ℕ) (y : X) → slice_get (z ∷ xs) m ≡ Some y → (m == 0) ≡ false → g y ≡ 0
      head_only s x y d n = search (std_rules, no_true, same-number, nothing)

      go : (sum_by g xs ≡ 1 → (k : ℕ) × (x : X) × (slice_get xs k ≡ Some x) × (g x ≡ 1) × ((m : ℕ) (y : X) → slice_get xs m ≡ Some y → (m == k) ≡ false → g y ≡ 0)) → (a : ℕ) → g z ≡ a
          → g z + sum_by g xs ≡ 1 → (k : ℕ) × (x : X) × (slice_get (z ∷ xs) k ≡ Some x) × (g x ≡ 1) × ((m : ℕ) (y : X) → slice_get (z ∷ xs) m ≡ Some y → (m == k) ≡ false → g y ≡ 0)
      go more zero e s = let r = more (omega (arith, e, s)) in (suc r.0, r.1, r.2, r.3, rest e r)
      go more (suc a) e s = (0, z, refl, omega (arith, e, s), head_only (omega (arith, e, s)))

-- ---- how often

abbrev pub counted : (WorldItem → Option ℕ) → ℕ → List WorldItem → ℕ
counted h n xs = count_by (λ i. is_id n (h i)) xs

abbrev pub shown : ℕ → List (WorldKey × WorldItem) → ℕ
shown n es = counted item_interface n (items es)

pub times_are : (n : ℕ) (w : World) → times_shown n w ≡ shown n w.imports.entries + shown n w.exports.entries
times_are n w = sum_by-append (λ i. cond (is_id n (item_interface i)) 1 0) (items w.imports.entries) (items w.exports.entries)

module _ (h : WorldItem → Option ℕ) (n : ℕ) where
  pub counted_append : (xs ys : List (WorldKey × WorldItem)) → counted h n (items (xs ++ ys)) ≡ counted h n (items xs) + counted h n (items ys)
  counted_append xs ys = ap (counted h n) (map-append (λ (e : WorldKey × WorldItem). e.1) xs ys) ∙ sum_by-append (λ i. cond (is_id n (h i)) 1 0) (items xs) (items ys)

  counted_cons : (x : WorldItem) (xs : List WorldItem) → counted h n (x ∷ xs) ≡ cond (is_id n (h x)) 1 0 + counted h n xs
  counted_cons x xs = sum_by-cons (λ i. cond (is_id n (h i)) 1 0) x xs

  -- by the numbers themselves
  pub counted_numbers : (xs : List WorldItem) → count_by (λ k. k == n) (filter_map h xs) ≡ counted h n xs
  counted_numbers [] = refl
  counted_numbers (x ∷ xs) = go (h x) ∙ (ap (λ k. cond (is_id n (h x)) 1 0 + k) (counted_numbers xs) ∙ sym (counted_cons x xs))
    where
      go : (o : Option ℕ) → count_by (λ k. k == n) (cons_option o (filter_map h xs)) ≡ cond (is_id n o) 1 0 + count_by (λ k. k == n) (filter_map h xs)
      go None = omega arith
      go (Some m) = sum_by-cons (λ k. cond (k == n) 1 0) m (filter_map h xs)

  -- what isn't among the items isn't counted
  pub none_counted : (xs : List WorldItem) → has (filter_map h xs) n ≡ false → counted h n xs ≡ 0
  none_counted [] e = refl
  none_counted (x ∷ xs) e =
      let both_ = sym (numbers_cons h x xs n) ∙ e in
      counted_cons x xs ∙ (λ i. cond (first_false (is_id n (h x)) (has (filter_map h xs) n) both_ i) 1 0 + none_counted xs (second_false (is_id n (h x)) _ both_) i)

-- ---- numbers in range

range_items : (r : Resolve) (h : WorldItem → Option ℕ) (p : ℕ → Bool) → ((i : WorldItem) → item_in_range r i ≡ true → list_all p (option_to_list (h i)) ≡ true) → (es : List (WorldKey × WorldItem))
    → entries_in_range r es ≡ true → list_all p (filter_map h (items es)) ≡ true
range_items r h p one es e = search (std_rules, by_items, all_weaker, second_true)

pub range_interfaces : (r : Resolve) (es : List (WorldKey × WorldItem)) → entries_in_range r es ≡ true → list_all (in_list r.interfaces.items) (filter_map item_interface (items es)) ≡ true
range_interfaces r es e = search (std_rules, range_items, both)

pub range_types : (r : Resolve) (es : List (WorldKey × WorldItem)) → entries_in_range r es ≡ true → list_all (in_list r.types.items) (filter_map item_type (items es)) ≡ true
range_types r es e = search (std_rules, range_items, both)

-- what is past a list isn't among numbers in range
pub past_range : {X : Type 0} (xs : List X) (ns : List ℕ) (n : ℕ) → list_all (in_list xs) ns ≡ true → length xs ≤ n → has ns n ≡ false
past_range xs ns n all high = false_from_ne_true _ (λ h. let low = ltb-true n (length xs) (passes_at (in_list xs) ns n all h) in omega (arith, low, high))

-- ---- what is added

module _ (f : Renumbering) (s : Numbered f) where
  -- what is shown anew is the image of what was shown
  pub shown_from : (own olds news : List (WorldKey × WorldItem)) → Joined f own olds news → (t : ℕ) → has (filter_map s.number (items news)) t ≡ true → (a : ℕ) × (s.marks a ≡ true) × (s.under a ≡ t)
  shown_from own _ _ none t h = no_true h
  shown_from own _ _ (met old there olds news c k i rest) t h = shown_from own olds news rest t h
  shown_from own _ _ (added old new olds news n z rest) t h = either _ _ (sym (numbers_cons s.number new.1 (items news) t) ∙ h)
      (λ e. one (s.number old.1) (s.marked old.1 new.1 z.1) (sym (ap (is_id t) (s.stands old.1 new.1 (becomes f old.1 new.1 z.1))) ∙ e)) (shown_from own olds news rest t)
    where
      one : (o : Option ℕ) → passes s.marks o ≡ true → is_id t (option_map s.under o) ≡ true → (a : ℕ) × (s.marks a ≡ true) × (s.under a ≡ t)
      one x p e = search std_rules

  pub none_added : (own olds news : List (WorldKey × WorldItem)) → Joined f own olds news → (t : ℕ)
      → ((a : ℕ) → s.marks a ≡ true → s.under a ≡ t → ⊥) → has (filter_map s.number (items news)) t ≡ false
  none_added own olds news j t none_such = false_from_ne_true _ (λ h. let r = shown_from own olds news j t h in none_such r.0 r.1 r.2)

  module _ (m : ℕ) (own : List (WorldKey × WorldItem)) (fresh : has (filter_map s.number (items own)) (s.under m) ≡ false) where
    -- what was there stands for another
    pub met_is_other : (i : WorldItem) (there : WorldKey × WorldItem) → Contains own there → ItemStandsFor f i there.1 → is_id m (s.number i) ≡ false
    met_is_other i there held stands = false_from_ne_true _ (λ e. no_true (sym fresh ∙ number_in s.number own there held (s.under m) (id_stands f s i there.1 stands m e)))

    -- a copy is shown as often as what it copies
    pub same_times : ((a : ℕ) → s.marks a ≡ true → s.under a ≡ s.under m → a ≡ m) → (olds news : List (WorldKey × WorldItem)) → Joined f own olds news
        → counted s.number (s.under m) (items news) ≡ counted s.number m (items olds)
    same_times apart _ _ none = refl
    same_times apart _ _ (met old there olds news held k stands rest) =
        search (std_rules, met_is_other old.1 there held stands, counted_cons s.number m old.1 (items olds), same_times apart olds news rest)
    same_times apart _ _ (added old new olds news key z rest) = counted_cons s.number (s.under m) new.1 (items news)
        ∙ ((λ i. cond ((ap (is_id (s.under m)) (s.stands old.1 new.1 (becomes f old.1 new.1 z.1)) ∙ same (s.number old.1) (s.marked old.1 new.1 z.1)) i) 1 0 + same_times apart olds news rest i)
        ∙ sym (counted_cons s.number m old.1 (items olds)))
      where
        same : (o : Option ℕ) → passes s.marks o ≡ true → is_id (s.under m) (option_map s.under o) ≡ is_id m o
        same x p = search std_rules
