-- The named types that numbers of a plan use are under no larger numbers.
use Rattle.std.proofs.Common.{rules as std_rules, ◌≡◌, ◌⊎◌, inl, inr, refl, ap, ◌∙◌, ◌<◌, ℕ, zero, suc, arith, true, List, [], ◌∷◌, length, take, flat_map, Some, unwrap_or, slice_get}
use Rattle.std.proofs.lemmas.{Bool.Decides.nat_tests, List.Elements.Contains-append_cases, Bool.and_from as both, Bool.ltb-true as less_than}
use Rattle.std.specs.{Prelude.nat_le, Prelude.nat_lt, List.Contains, List.list_all}
use Rattle.wit_model.specs.{Parts.met_by, Rules.each_from}
use Rattle.wit_model.proofs.{Elements.none-in, Functions.all_flat, RulesLemmas.each_at, Tables.grow_at, Owners.numbered_at as numbered_there}
use Rattle.plan_meaning.specs.Plan.{Plan, PlannedType, kind_numbers, met_at, met_in, used_by_numbers}
use Rattle.base_lemmas.proofs.{Elements.all-contained, Elements.all_weaker, Elements.contains-later, Lists.slice_take, Lists.within_there as slice_there}

-- what is met at a type, by what is met at smaller numbers
pub met_there : (p : Plan) (j : ℕ) (x : PlannedType) → slice_get p.types j ≡ Some x → met_by (met_in p) j ≡ met_at (take j (met_in p)) (j, x)
unfolding met_in
met_there p j x e = search (std_rules, grow_at, numbered_there 0 p.types j x e)

pub flat_among : {A B : Type 0} (f : A → List B) (xs : List A) (y : B) → Contains (flat_map f xs) y → (x : A) × Contains xs x × Contains (f x) y
flat_among f [] y c = none-in y c
flat_among f (x ∷ xs) y c = by (Contains-append_cases (f x) (flat_map f xs) y c) (flat_among f xs y)
  where
    by : Contains (f x) y ⊎ Contains (flat_map f xs) y → (Contains (flat_map f xs) y → (z : _) × Contains xs z × Contains (f z) y) → (z : _) × Contains (x ∷ xs) z × Contains (f z) y
    by (inl here) more = (x, (0, omega arith, refl), here)
    by (inr later) more = let found = more later in (found.0, contains-later x xs found.0 found.1, found.2)

module _ (p : Plan) (fall : each_from (λ n x. list_all (λ m. nat_lt m n) (kind_numbers x.kind)) 0 p.types ≡ true) where
  abbrev IsLow : ℕ → List ℕ → Type 0
  IsLow n ns = list_all (λ m. nat_le m n) ns ≡ true

  within : (n : ℕ) (ns : List ℕ) → ((j : ℕ) → j < n → IsLow j (met_by (take n (met_in p)) j)) → list_all (λ j. nat_lt j n) ns ≡ true → IsLow n (flat_map (met_by (take n (met_in p))) ns)
  within n ns small h = search (std_rules, all_flat, all_weaker, less_than, nat_tests)

  at_type : (n : ℕ) (x : PlannedType) → list_all (λ j. nat_lt j n) (kind_numbers x.kind) ≡ true → ((j : ℕ) → j < n → IsLow j (met_by (take n (met_in p)) j))
      → IsLow n (met_at (take n (met_in p)) (n, x))
  at_type n x below small = search (std_rules, nat_tests, both, within)

  low_by : (fuel n : ℕ) → n < fuel → n < length p.types → IsLow n (met_by (met_in p) n)
  low_by zero n h range = absurd (omega (arith, h))
  low_by (suc fuel) n h range =
      let found = slice_there p.types n range in
      ap (list_all (λ m. nat_le m n)) (met_there p n found.0 found.1) ∙ at_type n found.0 (each_at (λ n x. list_all (λ m. nat_lt m n) (kind_numbers x.kind)) p.types n found.0 fall found.1)
      (λ j less. ap (λ o. list_all (λ m. nat_le m j) (unwrap_or o [])) (slice_take (met_in p) n j less) ∙ low_by fuel j (omega (arith, less, h)) (omega (arith, less, range)))

  -- a named type that numbers use is used by one of them that isn't smaller
  pub used_among : (ns : List ℕ) → ((n : ℕ) → Contains ns n → n < length p.types) → (j : ℕ) → Contains (used_by_numbers p ns) j → (n : ℕ) × Contains ns n × (nat_le j n ≡ true)
  used_among ns range j c =
      let found = flat_among (met_by (met_in p)) ns j c in
      (found.0, found.1, all-contained (λ m. nat_le m found.0) (met_by (met_in p) found.0) j (low_by (suc found.0) found.0 (omega arith) (range found.0 found.1)) found.2)
