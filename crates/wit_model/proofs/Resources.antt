-- What is a resource may be computed along the list of types, where each refers to smaller numbers alone.
use Rattle.std.proofs.Common.{rules as std_rules, ◌≡◌, refl, ℕ, zero, suc, ◌<◌, ◌≤◌, Bool, true, false, ◌&&◌, nat_lt, List, length, Some, None, Option, option_to_list, filter_map, not, arith}
use Rattle.std.proofs.lemmas.Option.{slice_get_within, slice_get_past}
use Rattle.std.specs.{List.list_all, Option.option_map_or}
use Rattle.wit_model.specs.declared.model.{Resolve.Resolve, TypeDef.TypeDef, TypeDefKind.TypeDefKind, «Type».«Type» as ValueType, Function.Function}
use Rattle.wit_model.specs.{Lookup.type_at, Types.number_of, Rules.passes, Valid.Keeps, Checks.references, Checks.all_values}
use Rattle.wit_model.specs.Parts.{kind_numbers, member_types, handled, function_types, is_resource, is_resource_type, is_resource_kind, ends_in_resource}
use Rattle.wit_model.proofs.{Checks.below_at, Functions.types_test, Functions.functions_test}

-- whether a kind is a resource hangs on smaller numbers alone
pub kind_same : (f g : ℕ → Bool) (n : ℕ) (k : TypeDefKind) → ((m : ℕ) → m < n → f m ≡ g m) → list_all (λ m. nat_lt m n) (kind_numbers k) ≡ true → is_resource_kind f k ≡ is_resource_kind g k
kind_same f g n x same h = search std_rules

module _ (r : Resolve) (below : Keeps references r) where
  -- one more step changes nothing, where there were more than the number
  stable : (s n : ℕ) → n < s → ends_in_resource r s n ≡ ends_in_resource r (suc s) n
  unfolding ends_in_resource
  stable zero n h = absurd (omega (arith, h))
  stable (suc s) n h = go (λ m low. stable s m (omega (arith, low, h))) (type_at r n) refl
    where
      go : ((m : ℕ) → m < n → ends_in_resource r s m ≡ ends_in_resource r (suc s) m) → (o : Option TypeDef) → type_at r n ≡ o
          → option_map_or (λ def. is_resource_kind (ends_in_resource r s) def.kind) o false ≡ option_map_or (λ def. is_resource_kind (ends_in_resource r (suc s)) def.kind) o false
      go same None e = refl
      go same (Some def) e = kind_same (ends_in_resource r s) (ends_in_resource r (suc s)) n def.kind same (below_at r below n def e)

  step_at : (s n : ℕ) (def : TypeDef) → n < s → type_at r n ≡ Some def → ends_in_resource r s n ≡ is_resource_kind (ends_in_resource r s) def.kind
  unfolding ends_in_resource
  step_at x n def h is = search (std_rules, kind_same, stable, below_at)

  -- a number is a resource where its kind is one, or an alias of one
  pub resource_step : (n : ℕ) (def : TypeDef) → type_at r n ≡ Some def → is_resource r n ≡ is_resource_kind (is_resource r) def.kind
  resource_step n def is = step_at (length r.types.items) n def (slice_get_within r.types.items n def is) is

-- a number past the list is none
pub no_resource : (r : Resolve) (n : ℕ) → length r.types.items ≤ n → is_resource r n ≡ false
unfolding ends_in_resource
no_resource r n h = search (std_rules, slice_get_past)

-- ---- the tests, by any marks that agree

module _ (r : Resolve) (f : ℕ → Bool) (same : (n : ℕ) → f n ≡ is_resource r n) where
  unmarked : (t : ValueType) → list_all (λ n. not (f n)) (option_to_list (number_of t)) ≡ not (is_resource_type r t)
  unmarked t = search std_rules

  pub marked_type : (k : TypeDefKind) →
      (list_all (λ n. not (f n)) (filter_map number_of (member_types k)) && passes f (handled k))
      ≡ (list_all (λ t. not (is_resource_type r t)) (member_types k) && passes (is_resource r) (handled k))
  marked_type k = λ i. types_test (λ n. not (f n)) (λ t. not (is_resource_type r t)) unmarked (member_types k) i && passes (λ n. same n i) (handled k)

  pub marked_functions : (fs : List Function) → list_all (λ n. not (f n)) (all_values fs) ≡ list_all (λ x. list_all (λ t. not (is_resource_type r t)) (function_types x)) fs
  marked_functions fs = functions_test (λ n. not (f n)) (λ t. not (is_resource_type r t)) unmarked fs
