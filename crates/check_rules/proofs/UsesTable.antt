-- The sets of the interfaces that each interface uses.
use Rattle.std.proofs.Common.{rules as std_rules, ◌≡◌, refl, sym, ◌∙◌, ℕ, ◌+◌, ◌<◌, ◌≤◌, Bool, true, false, ◌&&◌, ◌||◌, not, ◌==◌, List, [], ◌∷◌, ◌++◌, length, option_to_list, slice_get, Some, None, Option}
use Rattle.std.proofs.lemmas.Option.{slice_get_past}
use Rattle.std.specs.{List.list_all, List.list_any, Option.option_map_or, HashSet.HashSet}
use Rattle.indexmap.specs.IndexMap.{values}
use Rattle.wit_model.specs.declared.model.{Resolve.Resolve, Interface.Interface}
use Rattle.wit_model.specs.{Lookup.interface_at, Uses.has, Uses.direct_deps}
use Rattle.wit_model.specs.ItemOrders.{holds, is_other_use, entry_holds, entry_passes, IsUsesTable}
use Rattle.wit_model.proofs.{Checks.below_or_past, Checks.get_before, Shown.deps_pass, UsesLemmas.all_from_has as all_of_has, UsesLemmas.any_is_has as held}
use Rattle.wit_model.proofs.Chains.{all_has}
use Rattle.base_lemmas.proofs.{Elements.not_all, Lists.at_last as get_last}

-- ---- lists with the same numbers

pub same_has : (test : ℕ → Bool) (xs ys : List ℕ) → ((q : ℕ) → has xs q ≡ has ys q) → list_all test xs ≡ list_all test ys
same_has test xs ys same = search (std_rules, all_of_has, all_has)

-- ---- the table

-- what a set holds is what the interface uses, so a test of the one is a test of the other
pub entry_ready : {S : Type 0} (r : Resolve) (table : List (HashSet ℕ S)) → IsUsesTable r table → (n : ℕ) (test : ℕ → Bool) → entry_passes table n test ≡ list_all test (direct_deps r n)
entry_ready {S} r table right n test = go (slice_get table n) (right n)
  where
    go : (o : Option (HashSet ℕ S)) → ((q : ℕ) → option_map_or (λ s. holds s q) o false ≡ has (direct_deps r n) q) → option_map_or (λ s. list_all test s.keys) o true ≡ list_all test (direct_deps r n)
    go None same = same_has test [] (direct_deps r n) same
    go (Some s) same = same_has test s.keys (direct_deps r n) (λ q. sym (held s.keys q) ∙ same q)

-- one more entry
pub uses_more : {S : Type 0} (r : Resolve) (table : List (HashSet ℕ S)) (s : HashSet ℕ S) (k : ℕ) → length table ≡ k → ((n : ℕ) → n < k → (q : ℕ) → entry_holds table n q ≡ has (direct_deps r n) q) →
    ((q : ℕ) → holds s q ≡ has (direct_deps r k) q) → (n : ℕ) → n < k + 1 → (q : ℕ) → entry_holds (table ++ s ∷ []) n q ≡ has (direct_deps r n) q
uses_more r table s k made right last n h q = search (std_rules, below_or_past, get_before, get_last)

nothing_used : (r : Resolve) (n : ℕ) → length r.interfaces.items ≤ n → direct_deps r n ≡ []
nothing_used r n past = let none : interface_at r n ≡ None = slice_get_past r.interfaces.items n past in rw none refl

-- all entries
pub uses_all : {S : Type 0} (r : Resolve) (table : List (HashSet ℕ S)) (k : ℕ) → length table ≡ k → length r.interfaces.items ≤ k
    → ((n : ℕ) → n < k → (q : ℕ) → entry_holds table n q ≡ has (direct_deps r n) q) → IsUsesTable r table
uses_all r table k made past right n q = search (std_rules, below_or_past, slice_get_past, nothing_used)

-- ---- what an interface uses

other_use : (o : Option ℕ) (own q : ℕ) → not (option_map_or (λ m. (m == q) && not (m == own)) o false) ≡ list_all (λ m. (m == own) || not (m == q)) (option_to_list o)
other_use x own q = search std_rules

pub uses_found : (r : Resolve) (n : ℕ) (i : Interface) → interface_at r n ≡ Some i → (q : ℕ) → list_any (λ id. is_other_use r n id.0 q) (values i.types) ≡ has (direct_deps r n) q
uses_found r n i is q = search (std_rules, not_all, other_use, deps_pass)
