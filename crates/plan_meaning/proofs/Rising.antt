-- Lists of rising numbers: none stands twice, and what a number uses, being smaller, stands before it.
use Rattle.std.proofs.Common.{rules as std_rules, ◌≡◌, refl, sym, ap, ◌∙◌, ℕ, ◌<◌, Bool, true, false, ◌||◌, ◌==◌, not, nat_lt, List, [], ◌∷◌, ◌++◌, Option, Some, None, arith, map, ◌≤◌}
use Rattle.std.proofs.lemmas.{Bool.Decides.nat_tests, Bool.and_from as both, Bool.ltb-true as less_than, Bool.leb-true, Bool.lt-ltb, List.Folds.list_any-append}
use Rattle.std.proofs.lemmas.Option.{slice_get_within}
use Rattle.std.specs.{List.list_all, List.Contains, Option.option_map_or}
use Rattle.wit_model.specs.declared.model.{Resolve.Resolve, TypeDef.TypeDef}
use Rattle.wit_model.specs.{Lookup.type_at, Parts.used_by_type, Uses.has, Rules.each_after, Rules.used_by_number, Rules.each_from}
use Rattle.plan_meaning.specs.{PlanRules.are_rising, NumberedWorlds.are_once, Built.planned_type, Built.planned_kind}
use Rattle.plan_meaning.proofs.{Lists.each_there, ReadLists.times, ReadLists.times_once, Words.plan_of, Words.used_by_kind_is, MetTypes.used_among}
use Rattle.base_lemmas.proofs.{Bools.left_of as first_true, Bools.right_of as second_true, Lists.length_of_map}
use Rattle.base_lemmas.proofs.Elements.{all_weaker, all_pass, all-contained}
use Rattle.plan_meaning.specs.Plan as plan

-- ---- none stands twice

absent : (m n : ℕ) (ns : List ℕ) → m ≤ n → list_all (nat_lt n) ns ≡ true → has ns m ≡ false
absent m n [] le h = refl
absent m n (k ∷ ns) le h = search (std_rules, less_than, first_true, nat_tests, second_true, absent m n ns le (second_true (nat_lt n k) _ h))

are_apart : (ns : List ℕ) → are_rising ns ≡ true → are_once ns ≡ true
are_apart [] rise = refl
are_apart (n ∷ ns) rise = search (std_rules, both, absent, first_true, second_true, are_apart ns (second_true (list_all (nat_lt n) ns) (are_rising ns) rise))

pub stands_once : (n : ℕ) (ns : List ℕ) → are_rising ns ≡ true → has ns n ≡ true → (times n ns == 1) ≡ true
stands_once n ns rise h = ap (λ k. k == 1) (times_once n ns (are_apart ns rise) h)

-- ---- what is smaller stands before

absent_here : (m n : ℕ) (ns : List ℕ) → m < n → list_all (nat_lt n) ns ≡ true → has (n ∷ ns) m ≡ false
absent_here m n ns less h = let other : (n == m) ≡ false = grind (arith, nat_tests, less) in ap (λ b. b || has ns m) other ∙ absent m n ns (omega (arith, less)) h

covered : (a b c : Bool) → a ≡ (b || c) → c ≡ false → (not a || b) ≡ true
covered a y c e f = search std_rules

pub in_order : (used : ℕ → List ℕ) → ((n : ℕ) → list_all (λ m. nat_lt m n) (used n) ≡ true) → (all before rest : List ℕ) → ((m : ℕ) → has all m ≡ (has before m || has rest m)) → are_rising rest ≡ true
    → each_after (λ b n. list_all (λ m. not (has all m) || has b m) (used n)) before rest ≡ true
in_order used low all before [] split rise = refl
in_order used low all before (n ∷ rest) split rise = both _ _ (all_weaker (λ m. nat_lt m n) (λ m. not (has all m) || has before m)
    (λ m h. covered (has all m) (has before m) (has (n ∷ rest) m) (split m) (absent_here m n rest (less_than m n h) (first_true (list_all (nat_lt n) rest) _ rise))) (used n) (low n))
    (in_order used low all (before ++ n ∷ []) rest (λ m. split m ∙ ((search std_rules) ∙ ap (λ b. b || has rest m) (sym (list_any-append (λ k. k == m) before (n ∷ [])))))
    (second_true (list_all (nat_lt n) rest) _ rise))

-- ---- what is used is smaller

module _ (r : Resolve) (m : ℕ) (fall : each_from (λ n x. list_all (λ j. nat_lt j n) (plan.kind_numbers x.kind)) 0 (map planned_type r.types.items) ≡ true) where
  pub used_low : (n : ℕ) → list_all (λ k. nat_lt k n) (used_by_number r n) ≡ true
  used_low n = go (type_at r n) refl
    where
      go : (o : Option TypeDef) → type_at r n ≡ o → list_all (λ k. nat_lt k n) (option_map_or (used_by_type r) o []) ≡ true
      go None e = refl
      go (Some def) e =
          let ns = plan.kind_numbers (planned_kind def.kind) in
          let within : (j : ℕ) → Contains ns j
          → j < n = λ j c. less_than j n (all-contained _ _ j (each_there planned_type (λ n x. list_all (λ j. nat_lt j n) (plan.kind_numbers x.kind)) r.types.items fall n def e) c) in
          ap (list_all (λ k. nat_lt k n)) (sym (used_by_kind_is r m def.kind)) ∙ all_pass (λ k. nat_lt k n) (plan.used_by_numbers (plan_of r m) ns) (λ k c.
          let from = used_among (plan_of r m) fall ns (λ j d. let less = within j d in omega (arith, less, slice_get_within _ n _ e, length_of_map planned_type r.types.items)) k c in
          lt-ltb k n (omega (arith, within from.0 from.1, leb-true k _ from.2)))
