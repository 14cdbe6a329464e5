-- What a search finds in an ascending list.
use Rattle.std.proofs.Common.{rules as std_rules, ◌≡◌, sym, subst, ap, ◌∙◌, ℕ, zero, suc, ◌<◌, ◌≤◌, ◌-◌, ◌++◌, length, List, [], ◌∷◌, get_or, Ok, Err, Some, None, Option, Bool, true, false, refl, arith, inl, inr, append_assoc, Ordering}
use Rattle.std.proofs.lemmas.{Option.get_or_from_slice_get, Bool.cond-true, Bool.cond-false, Cmp.nat_cmp_total, Cmp.ranked, List.get_or_default, Map.Lookups.exact_unsigned, Map.Views.All-found}
use Rattle.std.proofs.lemmas.List.Sorted.{IsPermutation-append_comm, IsPermutation-append_right, IsPermutation-cons, IsPermutation-refl, IsPermutation-swap, IsPermutation-to_front, IsPermutation-trans}
use Rattle.std.proofs.lemmas.List.{Elements.Contains-append_cases, Elements.Contains-append_right, Elements.Contains-get_or, Quantifiers.all_pairs_push}
use Rattle.std.specs.{Prelude.IsPermutation, Prelude.if◌then◌else◌, Prelude.option_map, BTreeMap.BTreeMap, BTreeMap.IsOrdered, BTreeMap.get, BTreeMap.insert_entry, BTreeMap.is_at, List.Contains, List.cons_option, List.slice_get, List.Sorted.IsBinarySearchResult, List.Sorted.IsNonDecreasingBy, Ordering.is_eq, Ordering.match_ordering, Ordering.nat_cmp, Ordering.ordering_index, Map.lookup}
use Rattle.std.specs.declared.cmp.Ordering.TheVariants.{Less, Equal, Greater}
use Rattle.wit_model.proofs.Elements.{contains-filter_map}
use Rattle.base_lemmas.proofs.Elements.{lookup_stands as found}
use Rattle.encode_types.proofs.{Lists.none-in, Tables.equal-is}
use Rattle.encode_types.specs.NumberMaps.{AreAscending, AreBelow, filled}

module _ (run : List (ℕ × ℕ)) (ascend : AreAscending run) (n : ℕ) where
  rise : IsNonDecreasingBy (λ e. ordering_index (nat_cmp e.0 n)) run
  rise i j d le within = search std_rules

  -- what the search ends at has the number
  pub search-found : (at : ℕ) (d : ℕ × ℕ) → IsBinarySearchResult (λ e. nat_cmp e.0 n) run (Ok at) → (get_or run at d).0 ≡ n
  search-found at d equal = ranked _ n _ (sym (equal d))

  -- where it ends at none, no entry has it
  pub search-lacks : (at : ℕ) → at ≤ length run → IsBinarySearchResult (λ e. nat_cmp e.0 n) run (Err at) → (i : ℕ) → Contains run (n, i) → ⊥
  search-lacks at within parted i c =
      let same : (get_or run c.0 (n, i)).0 ≡ n = ap (λ (z : ℕ × ℕ). z.0) c.2 in
      let before : c.0 < at → (get_or run c.0 (n, i)).0 < n = λ lt. ranked _ n _ (sym ((parted rise).0 c.0 (n, i) (omega arith) lt)) in
      let after : at ≤ c.0 → n < (get_or run c.0 (n, i)).0 = λ le. ranked _ n _ (sym ((parted rise).1 c.0 (n, i) le c.1)) in
      grind (arith, before, after, same)

  -- what is above the last is above all
  pub above-last : (last : ℕ × ℕ) → slice_get run (length run - 1) ≡ Some last → last.0 < n → AreBelow run n
  above-last last is lt e c = search (std_rules, get_or_from_slice_get)

-- one more entry behind those of an ascending list
pub ascending-push : (run : List (ℕ × ℕ)) (e : ℕ × ℕ) → AreAscending run → AreBelow run e.0 → AreAscending (run ++ e ∷ [])
ascending-push run e ascend below = all_pairs_push (λ x y. x.0 < y.0) run e ascend (λ k d lt. below _ (Contains-get_or run k d lt))

-- in two lists
pub in-either : (xs ys : List (ℕ × ℕ)) (n : ℕ) → ((i : ℕ) → Contains xs (n, i) → ⊥) → ((i : ℕ) → Contains ys (n, i) → ⊥) → (i : ℕ) → Contains (xs ++ ys) (n, i) → ⊥
in-either xs ys n f g i c = elim (Contains-append_cases xs ys (n, i) c) [ inl l ↦ f i l | inr r ↦ g i r ]

-- what is pushed to the first of two lists, or to the second, is one more in both
pub pushed-first : (xs ys : List (ℕ × ℕ)) (e : ℕ × ℕ) → IsPermutation ((xs ++ ys) ++ e ∷ []) ((xs ++ e ∷ []) ++ ys)
pushed-first xs ys e = search (std_rules, append_assoc, IsPermutation-append_right, IsPermutation-append_comm)

pub pushed-second : (xs ys zs : List (ℕ × ℕ)) (e : ℕ × ℕ) → IsPermutation (ys ++ e ∷ []) zs → IsPermutation ((xs ++ ys) ++ e ∷ []) (xs ++ zs)
pushed-second xs ys zs e p = subst (λ l. IsPermutation l (xs ++ zs)) (sym (append_assoc xs ys (e ∷ []))) (IsPermutation-append_right xs (ys ++ e ∷ []) zs p)

-- ---- what is found

-- what stands at a place
pub found-at : (run : List (ℕ × ℕ)) (n at : ℕ) → at < length run → (get_or run at (0, 0)).0 ≡ n → Contains run (n, (get_or run at (0, 0)).1)
found-at run n at l is = (at, l, get_or_default run at (n, (get_or run at (0, 0)).1) (0, 0) l ∙ ap (λ m. (m, (get_or run at (0, 0)).1)) is)

-- ---- places, of which some are filled

pub filled-in : (es : List (ℕ × Option ℕ)) (n i : ℕ) → Contains es (n, Some i) → Contains (filled es) (n, i)
filled-in es n i c = contains-filter_map (λ e. option_map (λ j. (e.0, j)) e.1) es (n, Some i) (n, i) c (0, omega arith, refl)

filled-from : (es : List (ℕ × Option ℕ)) (n i : ℕ) → Contains (filled es) (n, i) → Contains es (n, Some i)
filled-from [] n i c = none-in _ c
filled-from ((k, Some j) ∷ es) n i (zero, l, e) = (0, omega arith, ap (λ (x : ℕ × ℕ). (x.0, Some x.1)) e)
filled-from ((k, Some j) ∷ es) n i (suc a, l, e) = let m = filled-from es n i (a, omega (arith, l), e) in (suc m.0, (let w = m.1 in omega (arith, w)), m.2)
filled-from ((k, None) ∷ es) n i c = let m = filled-from es n i c in (suc m.0, (let w = m.1 in omega (arith, w)), m.2)

-- what a look-up finds among places is an entry of both lists
pub number-behind : (xs : List (ℕ × ℕ)) (es : List (ℕ × Option ℕ)) (n i : ℕ) → lookup (is_at (nat_cmp n)) es ≡ Some (Some i) → Contains (xs ++ filled es) (n, i)
number-behind xs es n i q =
    let f = found (is_at (nat_cmp n)) es (Some i) q in
    Contains-append_right xs (filled es) (n, i) (filled-in es n i (subst (λ k. Contains es (k, Some i)) (sym (exact_unsigned n f.0 (equal-is _ f.2))) f.1))

-- where it finds no index, and the first has no such number, neither do both
pub number-nowhere : (xs : List (ℕ × ℕ)) (m : BTreeMap ℕ (Option ℕ)) → IsOrdered nat_cmp m → (n : ℕ) → ((i : ℕ) → get nat_cmp m n ≡ Some (Some i) → ⊥) → ((i : ℕ) → Contains xs (n, i) → ⊥)
    → (i : ℕ) → Contains (xs ++ filled m.entries) (n, i) → ⊥
number-nowhere xs m ordered n lacks none = in-either xs (filled m.entries) n none (λ i c. (let at = filled-from m.entries n i c in
    lacks i (subst (λ (e : ℕ × Option ℕ). get nat_cmp m e.0 ≡ Some e.1) at.2 (All-found nat_cmp_total m ordered at.0 (n, Some i) at.1))))

-- a place that isn't filled adds nothing
pub filled-open : (es : List (ℕ × Option ℕ)) (n : ℕ) → lookup (is_at (nat_cmp n)) es ≡ None → filled (insert_entry nat_cmp es n None) ≡ filled es
filled-open [] n h = refl
filled-open (e ∷ es) n h = by (nat_cmp n e.0) refl (λ q. filled-open es n (sym (cond-false _ _ _ q) ∙ h))
  where
    by : (o : Ordering) → nat_cmp n e.0 ≡ o → (is_eq (nat_cmp n e.0) ≡ false → filled (insert_entry nat_cmp es n None) ≡ filled es)
        → filled (match_ordering o ((n, None) ∷ e ∷ es) ((e.0, None) ∷ es) (e ∷ insert_entry nat_cmp es n None)) ≡ filled (e ∷ es)
    by Less q more = refl
    by Equal q more = absurd (let s : Some e.1 ≡ None = sym (cond-true _ _ _ (ap is_eq q)) ∙ h in let z : ⊥ = cc in z)
    by Greater q more = ap (cons_option (option_map (λ i. (e.0, i)) e.1)) (more (ap is_eq q))

-- one that is filled adds its entry, where the number has none
filled-front : (es : List (ℕ × Option ℕ)) (n i : ℕ) → ((j : ℕ) → Contains (filled es) (n, j) → ⊥) → IsPermutation ((n, i) ∷ filled es) (filled (insert_entry nat_cmp es n (Some i)))
filled-front [] n i lacks = IsPermutation-refl _
filled-front ((k, None) ∷ es) n i lacks = by (nat_cmp n k) refl (filled-front es n i lacks)
  where
    by : (o : Ordering) → nat_cmp n k ≡ o → IsPermutation ((n, i) ∷ filled es) (filled (insert_entry nat_cmp es n (Some i)))
        → IsPermutation ((n, i) ∷ filled es) (filled (match_ordering o ((n, Some i) ∷ (k, None) ∷ es) ((k, Some i) ∷ es) ((k, None) ∷ insert_entry nat_cmp es n (Some i))))
    by Less q rest = IsPermutation-refl _
    by Equal q rest = subst (λ m. IsPermutation ((n, i) ∷ filled es) ((m, i) ∷ filled es)) (exact_unsigned n k q) (IsPermutation-refl _)
    by Greater q rest = rest
filled-front ((k, Some j) ∷ es) n i lacks = by (nat_cmp n k) refl (filled-front es n i (λ m c. lacks m (suc c.0, (let w = c.1 in omega (arith, w)), c.2)))
  where
    by : (o : Ordering) → nat_cmp n k ≡ o → IsPermutation ((n, i) ∷ filled es) (filled (insert_entry nat_cmp es n (Some i)))
        → IsPermutation ((n, i) ∷ (k, j) ∷ filled es) (filled (match_ordering o ((n, Some i) ∷ (k, Some j) ∷ es) ((k, Some i) ∷ es) ((k, Some j) ∷ insert_entry nat_cmp es n (Some i))))
    by Less q rest = IsPermutation-refl _
    by Equal q rest = absurd (lacks j (0, omega arith, ap (λ m. (m, j)) (sym (exact_unsigned n k q))))
    by Greater q rest = IsPermutation-trans ((n, i) ∷ (k, j) ∷ filled es) ((k, j) ∷ (n, i) ∷ filled es) _
        (IsPermutation-swap ((n, i) ∷ (k, j) ∷ filled es) ((k, j) ∷ (n, i) ∷ filled es) 0 1 (omega arith) (omega arith) refl) (IsPermutation-cons (k, j) _ _ rest)

pub filled-more : (es : List (ℕ × Option ℕ)) (n i : ℕ) → ((j : ℕ) → Contains (filled es) (n, j) → ⊥) → IsPermutation (filled es ++ (n, i) ∷ []) (filled (insert_entry nat_cmp es n (Some i)))
filled-more es n i lacks = IsPermutation-trans _ _ _ (IsPermutation-to_front (filled es) (n, i)) (filled-front es n i lacks)

-- ---- room

-- room in the first of two lists, or in the second, where both are asked for
pub first-room : (past x y : Bool) → past ≡ true → (if past then x else y) ≡ true → x ≡ true
first-room true x y p h = h
first-room false x y p h = absurd (let z : ⊥ = cc in z)

pub second-room : (past x y : Bool) → past ≡ false → (if past then x else y) ≡ true → y ≡ true
second-room true x y p h = absurd (let z : ⊥ = cc in z)
second-room false x y p h = h
