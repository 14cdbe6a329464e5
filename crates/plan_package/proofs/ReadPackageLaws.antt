-- The packages of a plan of what is exported, as they are read.
use Rattle.std.proofs.Common.{rules as std_rules, ◌≡◌, refl, sym, ap, subst, ◌∙◌, ℕ, suc, ◌+◌, ◌<◌, arith, Bool, true, false, not, ◌&&◌, ◌||◌, ◌==◌, nat_lt, cond, List, [], ◌∷◌, length, map, Some, None, slice_get}
use Rattle.std.proofs.{lemmas.Bool.eqb-true, lemmas.Bool.eq-eqb, lemmas.Bool.ltb-true, lemmas.Bool.not-true as is_absent, ByRecursion.All-weaker as all_through}
use Rattle.std.proofs.lemmas.Option.{same_Some as same-some}
use Rattle.std.specs.List.{AllByRecursion, AllZip, list_all, list_any, prefix_len}
use Rattle.wit_model.specs.declared.model.TypeOwner.{TypeOwner}
use Rattle.wit_model.specs.{Names.PackageIdentity, Text.Text, Text.text_eq, Uses.has, Valid.as_interface}
use Rattle.comp_meaning.specs.Rules.{distinct}
use Rattle.read_homes.specs.Homes.{ArePackages}
use Rattle.read_exports.specs.declared.members.Member.{Member}
use Rattle.read_rules.specs.declared.scopes.Scope.{Scope}
use Rattle.plan_types.specs.PlannedTypes.{number_in}
use Rattle.plan_meaning.specs.{NumberedMembers.Homes, NumberedMembers.home_at, ReadPlaces.IsListedInterface, ReadPlaces.IsListedWorld, ReadPlaces.IsReadPackage}
use Rattle.plan_meaning.specs.{NumberedViews.Tables, Plan.Plan, Plan.PlannedInterface, Plan.PlannedPackage, Plan.PlannedWorld, Plan.numbers_of}
use Rattle.plan_meaning.specs.{NumberedWorlds.HasPath, NumberedWorlds.are_once, PlanRules.names_of}
use Rattle.plan_package.specs.{Listed.IsHomeAt, Listed.IsWorldAt, PlanWhole.places_in}
use Rattle.plan_package.specs.{ReadPackages.world_labels, ReadPackages.AreExported, ReadPackages.PackagesAreRead, WholeWorlds.worlds_in, WholeWorlds.PlansWorld}
use Rattle.plan_package.specs.WholePackages.{entries_from, interfaces_in, numbered_labels, IsForeignPackage, IsMainPackage, ListsPlace, PlansPackage, another, the_main}
use Rattle.plan_package.proofs.ListedLaws.{homes_are_listed, worlds_are_listed}
use Rattle.base_lemmas.proofs.{Bools.left_of as first_true, Bools.right_of as second_true, Bools.second_false as or_none, Elements.zip_at as zip_on}

-- ---- numbers among places

number_there : (p : ℕ) (ps : List ℕ) → prefix_len (λ q. not (p == q)) ps < length ps → slice_get ps (prefix_len (λ q. not (p == q)) ps) ≡ Some p
number_there p [] h = absurd (omega (arith, h))
number_there p (q ∷ ps) h = by (p == q) refl (number_there p ps) h
  where
    by : (b : Bool) → (p == q) ≡ b → (prefix_len (λ q. not (p == q)) ps < length ps → slice_get ps (prefix_len (λ q. not (p == q)) ps) ≡ Some p)
        → cond (not b) (1 + prefix_len (λ q. not (p == q)) ps) 0 < suc (length ps) → slice_get (q ∷ ps) (cond (not b) (1 + prefix_len (λ q. not (p == q)) ps) 0) ≡ Some p
    by true e later h = ap Some (sym (eqb-true p q e))
    by false e later h =
        let one : suc (prefix_len (λ q. not (p == q)) ps) ≡ 1 + prefix_len (λ q. not (p == q)) ps = omega arith in
        subst (λ (m : ℕ). slice_get (q ∷ ps) m ≡ Some p) one (later (omega (arith, h)))

pub number_at : (places : List ℕ) (p n : ℕ) → number_in places p ≡ Some n → slice_get places n ≡ Some p
number_at places p n is = by (nat_lt (prefix_len (λ q. not (p == q)) places) (length places)) refl is
  where
    by : (b : Bool) → nat_lt (prefix_len (λ q. not (p == q)) places) (length places) ≡ b → cond b (Some (prefix_len (λ q. not (p == q)) places)) None ≡ Some n → slice_get places n ≡ Some p
    by true e is = subst (λ (m : ℕ). slice_get places m ≡ Some p) (same-some _ n is) (number_there p places (ltb-true (prefix_len (λ q. not (p == q)) places) (length places) e))
    by false e is = let wrong : None ≡ Some n = is in absurd cc

-- ---- lists that go together

module _ (places : List ℕ) where
  not_listed : (x k : ℕ) → number_in places x ≡ Some k → (xs es : List (Text × ℕ)) → AllZip (ListsPlace places) xs es → has (map (λ (y : Text × ℕ). y.1) xs) x ≡ false → has (numbers_of es) k ≡ false
  not_listed x k is [] [] all none = refl
  not_listed x k is [] (e ∷ es) all none = absurd all
  not_listed x k is (y ∷ xs) [] all none = absurd all
  not_listed x k is (y ∷ xs) (e ∷ es) all none = by (e.1 == k) refl (not_listed x k is xs es all.1 (or_none (y.1 == x) (has (map (λ (y : Text × ℕ). y.1) xs) x) none))
    where
      by : (b : Bool) → (e.1 == k) ≡ b → has (numbers_of es) k ≡ false → (b || has (numbers_of es) k) ≡ false
      by true same later =
          let wrong : true ≡ false = sym (ap (λ b. b || has (map (λ (y : Text × ℕ). y.1) xs) x)
          (eq-eqb y.1 x (same-some y.1 x (sym (subst (λ (m : ℕ). slice_get places m ≡ Some y.1) (eqb-true e.1 k same) (number_at places y.1 e.1 all.0.1)) ∙ number_at places x k is)))) ∙ none in
          absurd cc
      by false same later = later

  listed_once : (xs es : List (Text × ℕ)) → AllZip (ListsPlace places) xs es → are_once (map (λ (x : Text × ℕ). x.1) xs) ≡ true → are_once (numbers_of es) ≡ true
  listed_once [] [] all once = refl
  listed_once [] (e ∷ es) all once = absurd all
  listed_once (x ∷ xs) [] all once = absurd all
  listed_once (x ∷ xs) (e ∷ es) all once =
      λ i. not ((not_listed x.1 e.1 all.0.1 xs es all.1 (is_absent (has (map (λ (x : Text × ℕ). x.1) xs) x.1) (first_true _ _ once))) i) && (listed_once xs es all.1 (second_true _ _ once)) i

  names_pass : (test : Text → Bool) (xs es : List (Text × ℕ)) → AllZip (ListsPlace places) xs es → list_all (λ (x : Text × ℕ). test x.0) xs ≡ true → list_all (λ (e : Text × ℕ). test e.0) es ≡ true
  names_pass test [] [] all h = refl
  names_pass test [] (e ∷ es) all h = absurd all
  names_pass test (x ∷ xs) [] all h = absurd all
  names_pass test (x ∷ xs) (e ∷ es) all h = λ i. (ap test all.0.0 ∙ first_true _ _ h) i && (names_pass test xs es all.1 (second_true _ _ h)) i

-- ---- packages

module _ (t : Tables) (h : Homes) (paths : (q : ℕ) (x : ℕ × Text) → home_at h q ≡ Some x → HasPath t q) (owners : ℕ → TypeOwner) (places : List ℕ)
    (own : (m q : ℕ) → slice_get places m ≡ Some q → owners q ≡ as_interface m) (p : Plan) (R : ℕ → PlannedInterface → Type 0) (interfaces : AllZip R places p.interfaces) where
  listed_by : (m : ℕ) (e : Text × ℕ) (q : ℕ) → slice_get places e.1 ≡ Some q → home_at h q ≡ Some (m, e.0) → IsListedInterface t h p owners m e
  listed_by m e q there home = search (std_rules, zip_on)

  exported_listed : (n : ℕ) (xs es : List (Text × ℕ)) → AllByRecursion (λ (x : Text × ℕ). home_at h x.1 ≡ Some (n, x.0)) xs → AllZip (ListsPlace places) xs es
      → AllByRecursion (IsListedInterface t h p owners n) es
  exported_listed n [] [] homes all = tt
  exported_listed n [] (e ∷ es) homes all = absurd all
  exported_listed n (x ∷ xs) [] homes all = absurd all
  exported_listed n (x ∷ xs) (e ∷ es) homes all = search (std_rules, listed_by, number_at, exported_listed n xs es homes.1 all.1)

  module _ (packages : ArePackages h.packages) (n : ℕ) (ms : List Member) (exported : AreExported h n ms) (S : Text × Scope → PlannedWorld → Type 0)
      (named : (w : Text × Scope) (x : PlannedWorld) → S w x → (x.name ≡ w.0) × (x.package_ ≡ Some n)) (worlds : AllZip S (worlds_in ms) p.worlds) where
    world_listed : (e : Text × ℕ) → IsWorldAt (worlds_in ms) e → IsListedWorld t h p owners n e
    world_listed e at =
        let found = zip_on S (worlds_in ms) p.worlds worlds e.1 at.world at.there in
        let is = named at.world found.0 found.2 in
        record { world = found.0; there = found.1; named = is.0 ∙ sym at.name; home = is.1 }

    foreign_read : (m : ℕ) (k : PlannedPackage) (identity : PackageIdentity) → slice_get h.packages m ≡ Some identity → IsForeignPackage identity (entries_from (home_at h) m 0 places) k
        → IsReadPackage t h p owners m k
    foreign_read m k identity at is =
        let read = packages.read m identity at in
        let listed = homes_are_listed (home_at h) m places in
        let none : names_of k.worlds ≡ [] = ap names_of is.worlds in
        record {
          identity = at ∙ ap Some (sym is.is);
          path = read.path;
          name = read.name;
          reads = read.reads ∙ ap (λ (x : PackageIdentity). Some (x, read.name)) (sym is.is);
          interfaces = subst (AllByRecursion (IsListedInterface t h p owners m)) (sym is.interfaces)
              (all_through (IsHomeAt (home_at h) m places) (IsListedInterface t h p owners m) (λ e at. listed_by m e at.place at.there at.home) (entries_from (home_at h) m 0 places) listed.among);
          once = ap (λ es. are_once (numbers_of es)) is.interfaces ∙ listed.once;
          worlds = subst (AllByRecursion (IsListedWorld t h p owners m)) (sym is.worlds) tt;
          labels = ap distinct none;
          apart = ap (λ (names : List Text). list_all (λ (e : Text × ℕ). not (list_any (text_eq e.0) names)) k.interfaces) none ∙ all_pass k.interfaces;
        }
      where
        all_pass : (es : List (Text × ℕ)) → list_all (λ (e : Text × ℕ). not (list_any (text_eq e.0) [])) es ≡ true
        all_pass [] = refl
        all_pass (e ∷ es) = all_pass es

    main_read : (k : PlannedPackage) (identity : PackageIdentity) → slice_get h.packages n ≡ Some identity → IsMainPackage identity places ms k → IsReadPackage t h p owners n k
    main_read k identity at is =
        let read = packages.read n identity at in
        let listed = worlds_are_listed (worlds_in ms) in
        let names : names_of k.worlds ≡ world_labels ms = ap names_of is.worlds ∙ listed.names in
        record {
          identity = at ∙ ap Some (sym is.is);
          path = read.path;
          name = read.name;
          reads = read.reads ∙ ap (λ (x : PackageIdentity). Some (x, read.name)) (sym is.is);
          interfaces = exported_listed n (interfaces_in ms) k.interfaces exported.homes is.interfaces;
          once = listed_once places (interfaces_in ms) k.interfaces is.interfaces exported.once;
          worlds = subst (AllByRecursion (IsListedWorld t h p owners n)) (sym is.worlds)
              (all_through (IsWorldAt (worlds_in ms)) (IsListedWorld t h p owners n) world_listed (numbered_labels 0 (worlds_in ms)) listed.among);
          labels = ap distinct names ∙ exported.labels;
          apart = ap (λ (ls : List Text). list_all (λ (e : Text × ℕ). not (list_any (text_eq e.0) ls)) k.interfaces) names
              ∙ names_pass places (λ name. not (list_any (text_eq name) (world_labels ms))) (interfaces_in ms) k.interfaces is.interfaces exported.apart;
        }

    package_read : (m : ℕ) (k : PlannedPackage) → PlansPackage h.packages n places ms (entries_from (home_at h) m 0 places) m k → IsReadPackage t h p owners m k
    package_read m k (the_main identity is_main at is) =
        subst (λ (m : ℕ). IsReadPackage t h p owners m k) (sym is_main) (main_read k identity (subst (λ (m : ℕ). slice_get h.packages m ≡ Some identity) is_main at) is)
    package_read m k (another identity apart at is) = foreign_read m k identity at is

pub packages_are_read : PackagesAreRead
packages_are_read t h packages paths n ms exported owners own p whole m k at =
    package_read t h paths owners (places_in ms) own p _ whole.interfaces packages n ms exported (PlansWorld t whole.kept (places_in ms) n) (λ w x is. (is.name, is.package_)) whole.worlds m k
    (whole.packages.each m k at)
