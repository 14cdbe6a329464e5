-- Packages by their numbers, and modules that are refused.
use Rattle.std.proofs.Common.{rules as std_rules, ◌≡◌, ◌≤◌, ◌<◌, ◌+◌, ◌-◌, ◌∙◌, refl, sym, ap, subst, ℕ, zero, suc, nat_lt, Bool, true, false, List, [], ◌∷◌, ◌++◌, length, map, Some, arith}
use Rattle.std.proofs.lemmas.{Bool.lt-ltb, Bool.ltb-false, Bool.ltb-true, List.FromFn.map-range_with_len_more}
use Rattle.std.specs.{Prelude.slice_get, List.list_all, List.range_with_len}
use Rattle.wit_model.specs.declared.{error.Error.Error, model.Resolve.Resolve}
use Rattle.wit_model.specs.declared.{error.Error.TheVariants.Memory, error.Error.TheVariants.Size, model.Package.Package, model.PackageId.PackageId}
use Rattle.wit_model.specs.{Lookup.package_at, Rules.in_list, Valid.IsValid, Valid.is_place, Valid.numbers_in_range}
use Rattle.wit_model.proofs.OnePath.{package-passes}
use Rattle.wit_component.specs.{Bound.RefusesBindings, BoundTo.BeginsWithRoot}
use Rattle.witc_texts.specs.Bindings.{other_packages_of}
use Rattle.base_lemmas.proofs.{Bools.left_of as first_true, Lists.within_there as there}

-- ---- how many packages there are

no-place : is_place 4294967295 ≡ true → ⊥
no-place h = cc

in-place : (r : Resolve) → IsValid r → (n : ℕ) (p : Package) → package_at r n ≡ Some p → is_place n ≡ true
unfolding numbers_in_range
in-place r valid n p at = first_true (is_place n) _ (package-passes numbers_in_range r valid.rules.numbers_in_range n p at)

-- Each has a number of 32 bits.
pub few-packages : (r : Resolve) → IsValid r → length r.packages.items ≤ 4294967295
few-packages r valid = by (nat_lt 4294967295 (length r.packages.items)) refl
  where
    by : (b : Bool) → nat_lt 4294967295 (length r.packages.items) ≡ b → length r.packages.items ≤ 4294967295
    by true e = let p = there r.packages.items 4294967295 (ltb-true 4294967295 (length r.packages.items) e) in absurd (no-place (in-place r valid 4294967295 p.0 p.1))
    by false e = ltb-false 4294967295 (length r.packages.items) e

-- there is one, where the first is known
pub some-packages : (r : Resolve) → BeginsWithRoot r → 0 < length r.packages.items
some-packages r root = by r.packages.items root.first
  where
    by : (ps : List Package) → slice_get ps 0 ≡ Some root.package_ → 0 < length ps
    by [] e = let no : ⊥ = cc in absurd no
    by (p ∷ ps) e = omega arith

-- ---- all of them but the first

pub all-there : {X : Type 0} (xs : List X) (from many : ℕ) → from + many ≤ length xs → list_all (λ (id : PackageId). in_list xs id.0) (map (λ n. record { 0 = n }) (range_with_len from many)) ≡ true
all-there xs from zero within = refl
all-there xs from (suc many) within = search (std_rules, lt-ltb, all-there xs (from + 1) many (omega (arith, within)))

-- a number more
pub one-more : (number : ℕ) (old new : List PackageId) → 1 ≤ number → old ≡ map (λ n. record { 0 = n }) (range_with_len 1 (number - 1)) → new ≡ old ++ record { 0 = number } ∷ []
    → new ≡ map (λ n. record { 0 = n }) (range_with_len 1 (number + 1 - 1))
one-more number old new some is pushed =
    let numbered : ℕ → PackageId = λ n. record { 0 = n } in
    let behind : 1 + (number - 1) ≡ number = omega (arith, some) in
    let longer : (number - 1) + 1 ≡ number + 1 - 1 = omega (arith, some) in
    pushed ∙ (ap (λ (ids : List PackageId). ids ++ numbered number ∷ []) is
    ∙ (sym (map-range_with_len_more numbered 1 (number - 1) number behind) ∙ ap (λ (k : ℕ). map numbered (range_with_len 1 k)) longer))

pub others-there : (r : Resolve) → 0 < length r.packages.items → list_all (λ (id : PackageId). in_list r.packages.items id.0) (other_packages_of r) ≡ true
others-there r some = all-there r.packages.items 1 (length r.packages.items - 1) (omega (arith, some))

-- ---- refusals

-- memory ran out
pub no-memory : (bytes : List ℕ) (e : Error) → e ≡ Memory → RefusesBindings bytes e
no-memory bytes e is = subst (RefusesBindings bytes) (sym is) tt

-- that memory ran out is never that something is too large
pub never-too-large : (X : Type 0) (e : Error) → e ≡ Memory → e ≡ Size → X
never-too-large X e is large = search std_rules
