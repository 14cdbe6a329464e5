-- The rule on packages' names from its two parts.
use Rattle.std.proofs.Common.{rules as std_rules, ◌≡◌, refl, sym, ap, subst, ◌∙◌, ℕ, zero, suc, ◌+◌, ◌<◌, Bool, true, false, ◌&&◌, ◌||◌, not, ◌==◌, List, [], ◌∷◌, map, take, Some, None, slice_get, inl, inr, arith, eq-eqb}
use Rattle.std.proofs.lemmas.Bool.{cases_order, or_right, and_from as both_true, and_right as fails_second, or_parts as either_fails}
use Rattle.std.proofs.lemmas.Option.{same_Some as some_same}
use Rattle.std.specs.List.{list_any}
use Rattle.semver.specs.declared.Version.{Version}
use Rattle.wit_model.specs.declared.model.{Resolve.Resolve, Package.Package}
use Rattle.wit_model.specs.{Lookup.package_at, Checks.KeepsIn}
use Rattle.wit_model.specs.{Rules.each_from, Rules.same_package_name, Rules.same_version, Valid.Breaks, Valid.Keeps, Valid.entry_keeps, Valid.package_names}
use Rattle.check_rules.specs.PackageNames.{distinct_names, well_named}
use Rattle.wit_model.proofs.{Entries.each_from_all, Entries.packages_keep, RulesLemmas.name_flip}
use Rattle.wit_model.proofs.Distinct.{adds_new, adds_apart, are_apart, not_is}
use Rattle.base_lemmas.proofs.{Bools.left_of as first_true, Bools.right_of as second_true, Numbers.unequal as differ}
use Rattle.wit_model.specs.declared.error.EntryList.TheVariants as lists

no_some : {A B : Type 0} (x : A) → None ≡ Some x → B
no_some x e = let wrong : ⊥ = cc in absurd wrong

-- ---- lists

pub each_both : {A : Type 0} (p q : ℕ → A → Bool) (n : ℕ) (xs : List A) → each_from p n xs ≡ true → each_from q n xs ≡ true → each_from (λ m x. p m x && q m x) n xs ≡ true
each_both p q n [] h k = refl
each_both p q n (x ∷ xs) h k = both_true _ _ (both_true (p n x) (q n x) (first_true _ _ h) (first_true _ _ k)) (each_both p q (n + 1) xs (second_true (p n x) _ h) (second_true (q n x) _ k))

-- what fails at one entry fails
each_fails : {A : Type 0} (test : ℕ → A → Bool) (k : ℕ) (xs : List A) (n : ℕ) (x : A) → slice_get xs n ≡ Some x → test (k + n) x ≡ false → each_from test k xs ≡ false
each_fails test k [] n x at fails = no_some x at
each_fails test k (y ∷ ys) zero x at fails = search std_rules
each_fails test k (y ∷ ys) (suc n) x at fails =
    let next : k + suc n ≡ (k + 1) + n = omega arith in
    fails_second _ _ (each_fails test (k + 1) ys n x at (subst (λ m. test m x ≡ false) next fails))

module _ {A K : Type 0} (f : A → K) where
  -- what passes among those before a place stands at one
  pub any_before : (p : K → Bool) (xs : List A) (i : ℕ) → list_any p (take i (map f xs)) ≡ true → (m : ℕ) × (y : A) × (m < i) × (slice_get xs m ≡ Some y) × (p (f y) ≡ true)
  any_before p [] zero h = let wrong : ⊥ = cc in absurd wrong
  any_before p [] (suc i) h = let wrong : ⊥ = cc in absurd wrong
  any_before p (x ∷ xs) zero h = let wrong : ⊥ = cc in absurd wrong
  any_before p (x ∷ xs) (suc i) h = go (any_before p xs i) (p (f x)) refl h
    where
      go : (list_any p (take i (map f xs)) ≡ true → (m : ℕ) × (y : A) × (m < i) × (slice_get xs m ≡ Some y) × (p (f y) ≡ true)) → (b : Bool) → p (f x) ≡ b
          → (b || list_any p (take i (map f xs))) ≡ true → (m : ℕ) × (y : A) × (m < suc i) × (slice_get (x ∷ xs) m ≡ Some y) × (p (f y) ≡ true)
      go again true e k = (0, x, omega arith, refl, e)
      go again false e k = let more = again k in (suc more.0, more.1, omega (arith, more.2), more.3, more.4)

  none_at : (p : K → Bool) (xs : List A) (m : ℕ) (y : A) → list_any p (map f xs) ≡ false → slice_get xs m ≡ Some y → p (f y) ≡ false
  none_at p [] m y h at = no_some y at
  none_at p (x ∷ xs) zero y h at = ap (λ z. p (f z)) (sym (some_same x y at)) ∙ (either_fails (p (f x)) _ h).0
  none_at p (x ∷ xs) (suc m) y h at = none_at p xs m y (either_fails (p (f x)) _ h).1 at

  pair_apart : (same : K → K → Bool) (xs : List A) (n m : ℕ) (a b : A) → are_apart same (map f xs) ≡ true → n < m → slice_get xs n ≡ Some a → slice_get xs m ≡ Some b → same (f a) (f b) ≡ false
  pair_apart same [] n m a b h below at also = no_some a at
  pair_apart same (x ∷ xs) zero zero a b h below at also = absurd (omega (arith, below))
  pair_apart same (x ∷ xs) zero (suc m) a b h below at also = search (std_rules, some_same, none_at, not_is, first_true)
  pair_apart same (x ∷ xs) (suc n) zero a b h below at also = absurd (omega (arith, below))
  pair_apart same (x ∷ xs) (suc n) (suc m) a b h below at also = pair_apart same xs n m a b (second_true _ _ h) (omega (arith, below)) at also

-- ---- packages

version_flip : (a b : Version) → same_version a b ≡ same_version b a
version_flip a b = search std_rules

-- no other package has the name
only_at : (r : Resolve) → are_apart same_package_name (map (λ p. p.name) r.packages.items) ≡ true → (n : ℕ) (p : Package) → slice_get r.packages.items n ≡ Some p → distinct_names.package_ r n p ≡ true
unfolding distinct_names
only_at r apart n p at = each_from_all (λ m other. (m == n) || not (same_package_name p.name other.name)) 0 r.packages.items (λ m other also.
    let here : m ≡ 0 + m = omega arith in
    subst (λ k. ((k == n) || not (same_package_name p.name other.name)) ≡ true) here (elim (cases_order m n) [
      | inl same ↦ ap (λ b. b || not (same_package_name p.name other.name)) (eq-eqb m n same)
      | inr (inl before) ↦ or_right _ _ (ap not (name_flip p.name other.name ∙ pair_apart (λ p. p.name) same_package_name r.packages.items m n other p apart before also at))
      | inr (inr after) ↦ or_right _ _ (ap not (pair_apart (λ p. p.name) same_package_name r.packages.items n m p other apart after at also))
    ]))

pub distinct_kept : (r : Resolve) → adds_new same_package_name [] (map (λ p. p.name) r.packages.items) ≡ true → KeepsIn distinct_names r lists.Packages
distinct_kept r new = search (std_rules, adds_apart, name_flip, each_from_all, only_at)

-- a package that an earlier one has the name of
pub repeated_breaks : (r : Resolve) (n : ℕ) (p : Package) → package_at r n ≡ Some p → list_any (same_package_name p.name) (take n (map (λ p. p.name) r.packages.items)) ≡ true
    → Breaks r 2 lists.Packages n
unfolding package_names
repeated_breaks r n p at seen = search (std_rules, any_before, differ, each_fails, fails_second)

pub misnamed_breaks : (r : Resolve) (n : ℕ) → entry_keeps well_named r lists.Packages n ≡ Some false → Breaks r 2 lists.Packages n
unfolding well_named package_names
misnamed_breaks r n e = search std_rules

pub names_kept : (r : Resolve) → KeepsIn well_named r lists.Packages → KeepsIn distinct_names r lists.Packages → Keeps package_names r
unfolding well_named distinct_names package_names
names_kept r named apart = search (std_rules, packages_keep, each_both)
