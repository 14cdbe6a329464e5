-- The packages of a plan.
use Rattle.std.proofs.Common.{rules as std_rules, ◌≡◌, refl, sym, ap, subst, ◌∙◌, ℕ, zero, suc, ◌+◌, ◌<◌, ◌≤◌, arith, List, [], ◌∷◌, ◌++◌, append_assoc, map, drop, length, get_or, slice_index_or, slice_set, Bor, Option, Some, None, option_map, slice_get, ◌⊎◌, inl, inr, Result, Ok, Err, IfOk}
use Rattle.std.proofs.lemmas.{Bool.eqb-true, Bool.eq-eqb, List.drop_more, List.length-append, List.map-append, Option.slice_get_within as below}
use Rattle.std.proofs.Math.ListN.{drop_of_length-le}
use Rattle.wit_model.specs.declared.model.InterfaceId.{InterfaceId}
use Rattle.wit_model.specs.{Text.Text, Names.PackageIdentity}
use Rattle.read_rules.specs.declared.scopes.Scope.{Scope}
use Rattle.plan_package.specs.WholeInterfaces.{Home}
use Rattle.plan_package.specs.WholePackages.{entries_from, listed_at, numbered_interface, numbered_labels, AreListed, ArePlanned, Entries, IsMainPackage, ListsEntry, PlansPackage, PlansPackages, the_main}
use Rattle.read_exports.specs.declared.members.Member.{Member}
use Rattle.plan_build.specs.declared.plan.PlannedPackage.{PlannedPackage as CodePackage}
use Rattle.plan_build.specs.PlanOf.{stated_package}
use Rattle.plan_meaning.specs.Plan.{PlannedPackage}
use Rattle.base_lemmas.proofs.Lists.{append_none, front_or_end}

below_none : (k : ℕ) → k < 0 → ⊥
below_none k h = omega (arith, h)

-- what stands in a list is there
pub in_list : {A B : Type 0} (f : A → B) (o : Option A) (xs : List B) (n : ℕ) → option_map f o ≡ slice_get xs n → n < length xs → o ≡ None → ⊥
in_list f (Some x) xs n e within none = let wrong : Some x ≡ None = none in absurd cc
in_list f None [] n e within none = below_none n within
in_list f None (x ∷ xs) zero e within none = let wrong : None ≡ Some x = e in absurd cc
in_list f None (x ∷ xs) (suc n) e within none = in_list f None xs n e (omega (arith, within)) refl

-- worlds that are numbered, and those that are left
module _ {A B : Type 0} (f : A → Text × Scope) (h : B → Text × ℕ) (xs : List A) (i : ℕ) (old : List B) {v : List (Text × ℕ)} (kept : map h old ++ numbered_labels i (map f (drop i xs)) ≡ v) where
  pub one_numbered : (d : A) → i < length xs → (y : B) (new : List B) → new ≡ old ++ y ∷ [] → (h y).0 ≡ (f (get_or xs i d)).0 → (h y).1 ≡ i
      → map h new ++ numbered_labels (i + 1) (map f (drop (i + 1) xs)) ≡ v
  one_numbered d more y new added name number = search (std_rules, map-append, append_assoc, drop_more)

  pub all_numbered : length xs ≤ i → map h old ≡ v
  all_numbered past = sym (append_none (map h old)) ∙ (ap (λ l. map h old ++ numbered_labels i (map f l)) (sym (drop_of_length-le xs past)) ∙ kept)

-- ---- what is listed for each package

read_at : (old : List Entries) (k : ℕ) (d : Entries) → k < length old → listed_at old k ≡ map numbered_interface (slice_index_or old k d).items
read_at [] k d h = absurd (below_none k h)
read_at (x ∷ xs) zero d h = refl
read_at (x ∷ xs) (suc k) d h = read_at xs k d (omega (arith, h))

set_same : (old : List Entries) (k : ℕ) (y : Entries) → k < length old → listed_at (slice_set old k y) k ≡ map numbered_interface y.items
set_same [] k y h = absurd (below_none k h)
set_same (x ∷ xs) zero y h = refl
set_same (x ∷ xs) (suc k) y h = set_same xs k y (omega (arith, h))

set_other : (old : List Entries) (k q : ℕ) (y : Entries) → (k ≡ q → ⊥) → listed_at (slice_set old k y) q ≡ listed_at old q
set_other [] k q y apart = refl
set_other (x ∷ xs) zero zero y apart = absurd (apart refl)
set_other (x ∷ xs) zero (suc q) y apart = refl
set_other (x ∷ xs) (suc k) zero y apart = refl
set_other (x ∷ xs) (suc k) (suc q) y apart = set_other xs k q y (λ e. apart (ap suc e))

set_length : (old : List Entries) (k : ℕ) (y : Entries) → length (slice_set old k y) ≡ length old
set_length [] k y = refl
set_length (x ∷ xs) zero y = refl
set_length (x ∷ xs) (suc k) y = ap suc (set_length xs k y)

pub lists_entry : (old : List Entries) (k n : ℕ) (d y : Entries) (name : Bor Text) (id : InterfaceId) → k < length old → y.items ≡ (slice_index_or old k d).items ++ (name, id) ∷ [] → id.0 ≡ n
    → (home : Option Home) → home ≡ Some (k, name.now) → ListsEntry home n old (slice_set old k y)
lists_entry old k n d y name id within added number home is = search (std_rules, set_length, set_same, map-append, read_at, eqb-true, set_other, eq-eqb, append_none)

-- one place more
module _ (homes : ℕ → Option Home) (places : List ℕ) (i : ℕ) (old : List Entries) (kept : (q : ℕ) → q < length old → listed_at old q ++ entries_from homes q i (drop i places) ≡ entries_from homes q 0 places) where
  pub one_listed : (d : ℕ) → i < length places → (new : List Entries) (home : Option Home) → home ≡ homes (get_or places i d) → ListsEntry home i old new
      → (q : ℕ) → q < length new → listed_at new q ++ entries_from homes q (i + 1) (drop (i + 1) places) ≡ entries_from homes q 0 places
  one_listed d more new home is lists q within = search (std_rules, append_assoc, drop_more)

  pub all_listed : length places ≤ i → AreListed homes places old
  all_listed past q within = sym (append_none (listed_at old q)) ∙ (ap (λ l. listed_at old q ++ entries_from homes q i l) (sym (drop_of_length-le places past)) ∙ kept q within)

-- ---- all packages

pub main_planned : (packages : List PackageIdentity) (main : ℕ) (places : List ℕ) (ms : List Member) (es : List (Text × ℕ)) (n : ℕ) {E : Type 0} (r : Result CodePackage E) (identity : PackageIdentity)
    → n ≡ main → slice_get packages n ≡ Some identity → IfOk r (λ k. IsMainPackage identity places ms (stated_package k)) → IfOk r (λ k. PlansPackage packages main places ms es n (stated_package k))
main_planned packages main places ms es n (Ok k) identity own at is = the_main identity own at is
main_planned packages main places ms es n (Err e) identity own at is = tt

module _ (packages : List PackageIdentity) (main : ℕ) (places : List ℕ) (ms : List Member) (listed : ℕ → List (Text × ℕ)) where
  pub one_planned : (count : ℕ) (old new : List CodePackage) (y : CodePackage) → new ≡ old ++ y ∷ [] → PlansPackage packages main places ms (listed count) count (stated_package y)
      → ArePlanned packages main places ms listed count (map stated_package old) → ArePlanned packages main places ms listed (count + 1) (map stated_package new)
  one_planned count old new y added is before = record {
    many = ap length news ∙ (length-append (map stated_package old) (stated_package y ∷ []) ∙ ap (λ (m : ℕ). m + 1) before.many);
    each = λ n k e. by n k (front_or_end (map stated_package old) (stated_package y) n k (sym (ap (λ l. slice_get l n) news) ∙ e));
  }
    where
      news : map stated_package new ≡ map stated_package old ++ stated_package y ∷ []
      news = ap (map stated_package) added ∙ map-append stated_package old (y ∷ [])

      by : (n : ℕ) (k : PlannedPackage) → (slice_get (map stated_package old) n ≡ Some k) ⊎ ((n ≡ length (map stated_package old)) × (stated_package y ≡ k))
          → PlansPackage packages main places ms (listed n) n k
      by n k (inl e) = before.each n k e
      by n k (inr e) = subst (λ (m : ℕ). PlansPackage packages main places ms (listed m) m k) (sym (e.0 ∙ before.many)) (subst (PlansPackage packages main places ms (listed count) count) e.1 is)

  -- the same, by other lists that are the same for so many
  planned_by : (other : ℕ → List (Text × ℕ)) (count : ℕ) (ks : List PlannedPackage) → ((n : ℕ) → n < count → listed n ≡ other n) → ArePlanned packages main places ms listed count ks
      → ArePlanned packages main places ms other count ks
  planned_by other count ks same all = record {
    many = all.many;
    each = λ n k e. let within : n < count = omega (arith, below ks n k e, all.many) in subst (λ (es : List (Text × ℕ)). PlansPackage packages main places ms es n k) (same n within) (all.each n k e);
  }

pub planned_as : (packages : List PackageIdentity) (main : ℕ) (places : List ℕ) (ms : List Member) (homes : ℕ → Option Home) (ks : List PlannedPackage) (table items : List Entries) → table ≡ items
    → length items ≡ length packages → AreListed homes places items → ArePlanned packages main places ms (listed_at table) (length table) ks → PlansPackages packages homes main places ms ks
planned_as packages main places ms homes ks table items same many listed all = planned_by packages main places ms (listed_at table) (λ n. entries_from homes n 0 places) (length packages) ks
    (λ n h. ap (λ l. listed_at l n) same ∙ listed n (subst (λ (m : ℕ). n < m) (sym many) h))
    (subst (λ (m : ℕ). ArePlanned packages main places ms (listed_at table) m ks) (ap length same ∙ many) all)
