-- The tests of the rule on owners, by a table of what is met.
use Rattle.std.proofs.Common.{rules as std_rules, ◌≡◌, refl, sym, ap, ◌∙◌, ℕ, List, [], ◌∷◌, flat_map}
use Rattle.std.proofs.lemmas.List.Folds.{list_all-append}
use Rattle.std.specs.List.{list_all}
use Rattle.check_rules.specs.declared.owners.Met.{Met}
use Rattle.wit_model.specs.declared.model.{Resolve.Resolve, TypeOwner.TypeOwner, Function.Function}
use Rattle.wit_model.specs.{Parts.met_by, Parts.met_of, Parts.has_owner, Rules.function_stays, Checks.values_of, Checks.all_values}
use Rattle.check_rules.specs.Owners.{stays, met_entry, IsMetTable}
use Rattle.wit_model.proofs.Functions.{all_flat}

module _ (r : Resolve) (table : List Met) (right : IsMetTable r table) where
  -- what numbers meet
  pub numbers_stay : (o : TypeOwner) (ns : List ℕ) → list_all (λ n. stays (met_entry table n) o) ns ≡ list_all (has_owner r o) (flat_map (met_by (met_of r)) ns)
  numbers_stay o ns = ap (λ p. list_all p ns) (λ i n. right n o i) ∙ sym (all_flat (has_owner r o) (met_by (met_of r)) ns)

  function_stay : (o : TypeOwner) (f : Function) → list_all (λ n. stays (met_entry table n) o) (values_of f) ≡ function_stays r o f
  function_stay o f = numbers_stay o (values_of f)

  pub functions_stay : (o : TypeOwner) (fs : List Function) → list_all (λ n. stays (met_entry table n) o) (all_values fs) ≡ list_all (function_stays r o) fs
  functions_stay o [] = refl
  functions_stay o (f ∷ fs) = search (std_rules, list_all-append, function_stay, functions_stay o fs)
