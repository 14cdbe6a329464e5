-- A package that is built from a plan of it means what the plan means.
use Rattle.std.proofs.Common.{rules as std_rules, ◌≡◌, refl, sym, ap, ◌∙◌, ℕ, Bool, true, false, ◌&&◌, not, ◌==◌, List, [], map, filter_map, option_map, option_and_then, option_to_list, Option, Some, None, unwrap_or, is_some, subst}
use Rattle.std.proofs.lemmas.{Bool.and_from as both, Option.same_Some as same-some, Option.slice_get-map as get_of_map}
use Rattle.std.specs.{Prelude.if◌then◌else◌, Prelude.◌↔◌, List.Contains, List.list_any, Option.option_map_or, FinMap.from_entries}
use Rattle.wit_model.specs.declared.model.{Resolve.Resolve, Package.Package, PackageId.PackageId, Interface.Interface, InterfaceId.InterfaceId, WorldId.WorldId}
use Rattle.wit_model.specs.{Text.Text, Text.TextMap, Text.text_of, Meaning.InterfaceMeaning, Meaning.PackageMeaning, Valid.IsValid}
use Rattle.wit_model.specs.Lookup.{package_at, interface_at, interface_path, path_of_interface, identity_of}
use Rattle.wit_model.specs.{Uses.reached_by_package, Uses.is_shown_in, Rules.is_id, Rules.package_number}
use Rattle.wit_model.specs.Meant.{Meant, interface_meaning_at, types_alone, is_foreign, foreign_of, foreign_meaning}
use Rattle.wit_model.proofs.{Elements.contains-filter_map, Elements.has-contains, Elements.contains-has, UsesLemmas.has_filter, UsesLemmas.filter_has}
use Rattle.wit_model.proofs.{Maps.one_map, OnePath.has-path, OnePath.path-once, MeantLemmas.meaning_there}
use Rattle.plan_meaning.specs.{Plan.Plan, Plan.PlannedInterface, Plan.path_of_planned, PlanMeaning.plan_meaning, PlanMeaning.foreign_entry}
use Rattle.plan_meaning.specs.PlanRules.{IsPackagePlan}
use Rattle.plan_meaning.specs.Built.{IsBuilt, planned_function, planned_interface, planned_world, planned_package}
use Rattle.plan_meaning.proofs.Lists.{any_get}
use Rattle.plan_meaning.proofs.{Words.plan_of, Words.path_of_planned_is, Reaching.shown_in, Reaching.all_reached, Valid.plan_is, Valid.built_is_valid}
use Rattle.plan_meaning.proofs.Meanings.{named_means, planned_function_entry, meant_function_entry, interface_is, interface_at_is, world_at_is, functions_are}
use Rattle.base_lemmas.proofs.{Bools.left_of as first_true, Lists.get_back, Lists.nothing-mapped as none_mapped, Options.there as some-of}
use Rattle.base_lemmas.proofs.Elements.{contains-map, contains-one, filter_map_from, get-contains, map_from}
use Rattle.wit_model.specs.Meant as meant
use Rattle.plan_meaning.specs.PlanRules as rules
use Rattle.plan_meaning.specs.PlanMeaning as planned

-- ---- the path of an interface that stands there

pub path_there : (r : Resolve) (n : ℕ) (i : Interface) → interface_at r n ≡ Some i → interface_path r n ≡ path_of_interface r i
path_there r n i e = ap (option_and_then (path_of_interface r)) e

pub some_path : {A : Type 0} (o : Option Text) (f : Text → A) (x : A) → option_map f o ≡ Some x → (path : Text) × (o ≡ Some path) × (f path ≡ x)
some_path x f y e = search std_rules

-- an interface with a path has a name
pub named : (r : Resolve) (i : Interface) (k : Text) → path_of_interface r i ≡ Some k → is_some (planned_interface i).name ≡ true
named r i k path = search std_rules

module _ (r : Resolve) (m : ℕ) where
  -- what an interface means, under its path
  abbrev pub under : Interface → Text → Text × InterfaceMeaning
  under i path = (path, planned.interface_meaning (plan_of r m) (planned_interface i))

  -- an entry of the plan, and what it is
  pub shown_is : (i : Interface) (k : Text) (x : InterfaceMeaning) → option_map (under i) (path_of_planned (plan_of r m) (planned_interface i)) ≡ Some (k, x)
      → (path_of_interface r i ≡ Some k) × (x ≡ meant.interface_meaning r i)
  shown_is i k x e = search (std_rules, some_path (path_of_planned (plan_of r m) (planned_interface i)) (under i) (k, x) e, plan_of r m, plan_of r m, path_of_planned_is r m i, interface_is r m i)

  pub shown_of : (i : Interface) (k : Text) → path_of_interface r i ≡ Some k → option_map (under i) (path_of_planned (plan_of r m) (planned_interface i)) ≡ Some (k, meant.interface_meaning r i)
  shown_of i k path = ap (option_map (under i)) (path_of_planned_is r m i ∙ path) ∙ ap (λ (y : InterfaceMeaning). Some (k, y)) (interface_is r m i)

  entry_is : (i : Interface) (k : Text) (x : InterfaceMeaning) → foreign_entry (plan_of r m) (planned_interface i) ≡ Some (k, x)
      → (is_id m (package_number i.package) ≡ false) × (path_of_interface r i ≡ Some k) × (x ≡ meant.interface_meaning r i)
  entry_is i k x e = go (is_id m (package_number i.package)) refl e
    where
      go : (b : Bool) → is_id m (package_number i.package) ≡ b → (if b then None else option_map (under i) (path_of_planned (plan_of r m) (planned_interface i))) ≡ Some (k, x)
          → (is_id m (package_number i.package) ≡ false) × (path_of_interface r i ≡ Some k) × (x ≡ meant.interface_meaning r i)
      go true same e = absurd (let wrong : ⊥ = cc in wrong)
      go false other e = let found = shown_is i k x e in (other, found.0, found.1)

  entry_of : (i : Interface) (k : Text) → is_id m (package_number i.package) ≡ false → path_of_interface r i ≡ Some k
      → foreign_entry (plan_of r m) (planned_interface i) ≡ Some (k, meant.interface_meaning r i)
  entry_of i k other path = ap (λ b. if b then None else option_map (under i) (path_of_planned (plan_of r m) (planned_interface i))) other ∙ shown_of i k path

  -- the interface's number is of another package
  foreign_is : (n : ℕ) (i : Interface) → interface_at r n ≡ Some i → is_foreign r m n ≡ (is_some (interface_path r n) && not (option_map_or (λ id. id.0 == m) i.package false))
  foreign_is n i e = ap (λ o. is_some (interface_path r n) && not (option_map_or (λ x. option_map_or (λ id. id.0 == m) x.package false) o false)) e

  same_test : (o : Option PackageId) → option_map_or (λ id. id.0 == m) o false ≡ is_id m (package_number o)
  same_test x = search std_rules

-- Entries that a plan gives for some interfaces, by their paths, and those of numbers: one map, where the numbers are those of these interfaces.
module _ (r : Resolve) (v : IsValid r) (given : PlannedInterface → Option (Text × InterfaceMeaning)) (Passes : Interface → Type 0)
    (is : (i : Interface) (k : Text) (x : InterfaceMeaning) → given (planned_interface i) ≡ Some (k, x) → Passes i × (path_of_interface r i ≡ Some k) × (x ≡ meant.interface_meaning r i))
    (of : (i : Interface) (k : Text) → Passes i → path_of_interface r i ≡ Some k → given (planned_interface i) ≡ Some (k, meant.interface_meaning r i)) (numbers : List ℕ)
    (means : ℕ → InterfaceMeaning) (among : (n : ℕ) (i : Interface) → interface_at r n ≡ Some i → (k : Text) → path_of_interface r i ≡ Some k → Passes i → Contains numbers n
    × (means n ≡ meant.interface_meaning r i)) (back : (n : ℕ) → Contains numbers n → (is_some (interface_path r n) ≡ true) × ((i : Interface) → interface_at r n ≡ Some i → Passes i)) where
  abbrev planned_entries : List (Text × InterfaceMeaning)
  planned_entries = filter_map given (map planned_interface r.interfaces.items)

  abbrev at_number : ℕ → Text × InterfaceMeaning
  at_number n = (unwrap_or (interface_path r n) [], means n)

  abbrev meant_entries : List (Text × InterfaceMeaning)
  meant_entries = map at_number numbers

  record Source (k : Text) (x : InterfaceMeaning) : Type 0 where
    number : ℕ
    from : Interface
    stands : interface_at r number ≡ Some from
    passes : Passes from
    path : path_of_interface r from ≡ Some k
    value : x ≡ meant.interface_meaning r from

  source : (k : Text) (x : InterfaceMeaning) → Contains planned_entries (k, x) → Source k x
  source k x c =
      let found = filter_map_from given (map planned_interface r.interfaces.items) (k, x) c in
      let i = get_back planned_interface r.interfaces.items found.0 found.1 found.2 in
      let entry = is i.0 k x (ap given i.2 ∙ found.3) in
      record { number = found.0; from = i.0; stands = i.1; passes = entry.0; path = entry.1; value = entry.2 }

  there : (k : Text) (x : InterfaceMeaning) → Contains planned_entries (k, x) → Contains meant_entries (k, x)
  there k x c =
      let s = source k x c in
      let found = among s.number s.from s.stands k s.path s.passes in
      subst (λ (q : Text × InterfaceMeaning). Contains meant_entries q) (λ j. (unwrap_or ((path_there r s.number s.from s.stands ∙ s.path) j) [], (found.1 ∙ sym s.value) j))
      (contains-map at_number numbers s.number found.0)

  from_number : (n : ℕ) (k : Text) (x : InterfaceMeaning) → Contains numbers n → at_number n ≡ (k, x) → (path : Text) → interface_path r n ≡ Some path → Contains planned_entries (k, x)
  from_number n k x c e path there =
      let standing = has-path r n path there in
      let i = standing.def in
      let its_path : path_of_interface r i ≡ Some path = sym (path_there r n i standing.there) ∙ there in
      let passes = (back n c).1 i standing.there in
      contains-filter_map given (map planned_interface r.interfaces.items) (planned_interface i) (k, x) (contains-map _ _ i (get-contains _ n i standing.there))
      (subst (λ (o : Option (Text × InterfaceMeaning)). Contains (option_to_list o) (k, x)) (sym (of i path passes its_path ∙ (λ j. Some (
        (ap (λ o. unwrap_or o []) (sym there) ∙ ap (λ (q : Text × InterfaceMeaning). q.0) e) j,
        (sym (among n i standing.there path its_path passes).1 ∙ ap (λ (q : Text × InterfaceMeaning). q.1) e) j,
      )))) (contains-one (k, x)))

  here : (k : Text) (x : InterfaceMeaning) → Contains meant_entries (k, x) → Contains planned_entries (k, x)
  here k x c =
      let found = map_from at_number numbers (k, x) c in
      let path = some-of (interface_path r found.0) (back found.0 found.1).0 in
      from_number found.0 k x found.1 found.2 path.0 path.1

  one_value : (k : Text) (x y : InterfaceMeaning) → Contains planned_entries (k, x) → Contains planned_entries (k, y) → x ≡ y
  one_value k x y c d =
      let a = source k x c in
      let b = source k y d in
      a.value ∙ (ap (meant.interface_meaning r) (same-some a.from b.from (sym a.stands
      ∙ (ap (interface_at r) (path-once r v a.number b.number k (path_there r a.number a.from a.stands ∙ a.path) (path_there r b.number b.from b.stands ∙ b.path)) ∙ b.stands))) ∙ sym b.value)

  pub entries_are : ◌≡◌ {A = TextMap InterfaceMeaning} (from_entries planned_entries) (from_entries meant_entries)
  entries_are = one_map planned_entries meant_entries (record { one_value = one_value; there = there; here = here })

module _ (r : Resolve) (m : ℕ) (is : IsPackagePlan (plan_of r m)) (v : IsValid r) (p : Package) (at : package_at r m ≡ Some p) where
  -- without a world that shows it, an interface of another package has no functions
  plans_none : (n : ℕ) (i : Interface) → interface_at r n ≡ Some i → is_some (interface_path r n) ≡ true → rules.is_foreign (plan_of r m) (planned_interface i) ≡ true → is_shown_in r p n ≡ false
      → (planned_interface i).functions ≡ []
  plans_none n i e path foreign hidden = is.bare n (planned_interface i) (get_of_map planned_interface r.interfaces.items n ∙ ap (option_map planned_interface) e) foreign
      (unseen (list_any (λ w. rules.is_shown_in w n) (map planned_world r.worlds.items)) refl)
    where
      unseen : (b : Bool) → list_any (λ w. rules.is_shown_in w n) (map planned_world r.worlds.items) ≡ b → b ≡ false
      unseen false h = refl
      unseen true h = search (std_rules, any_get, shown_in)

  bare_means : (n : ℕ) (i : Interface) → interface_at r n ≡ Some i → is_some (interface_path r n) ≡ true → rules.is_foreign (plan_of r m) (planned_interface i) ≡ true → is_shown_in r p n ≡ false
      → types_alone (meant.interface_meaning r i) ≡ meant.interface_meaning r i
  bare_means n i e path foreign hidden = search (std_rules, plans_none n i e path foreign hidden, meant_function_entry r m, functions_are r m i, planned_function_entry r m)

  other_package : (n : ℕ) (i : Interface) → interface_at r n ≡ Some i → is_foreign r m n ≡ true → is_id m (package_number i.package) ≡ false
  other_package n i e foreign = search std_rules

  pub no_functions : (n : ℕ) (i : Interface) → interface_at r n ≡ Some i → is_foreign r m n ≡ true → is_shown_in r p n ≡ false → i.functions.entries ≡ []
  no_functions n i e foreign hidden =
      let some = first_true (is_some (interface_path r n)) _ (sym (foreign_is r m n i e) ∙ foreign) in
      let path = some-of (interface_path r n) some in
      none_mapped (λ e. (text_of e.0, planned_function e.1)) i.functions.entries
      (plans_none n i e some (both _ _ (named r i path.0 (sym (path_there r n i e) ∙ path.1)) (ap not (other_package n i e foreign))) hidden)

  foreign_are : ◌≡◌ {A = TextMap InterfaceMeaning} (from_entries (filter_map (foreign_entry (plan_of r m)) (map planned_interface r.interfaces.items)))
      (from_entries (map (λ n. (unwrap_or (interface_path r n) [], foreign_meaning r p n)) (foreign_of r m p)))
  foreign_are = entries_are r v (foreign_entry (plan_of r m)) (λ i. is_id m (package_number i.package) ≡ false) (entry_is r m) (entry_of r m) (foreign_of r m p) (foreign_meaning r p) among back
    where
      among : (n : ℕ) (i : Interface) → interface_at r n ≡ Some i → (k : Text) → path_of_interface r i ≡ Some k → is_id m (package_number i.package) ≡ false
          → Contains (foreign_of r m p) n × (foreign_meaning r p n ≡ meant.interface_meaning r i)
      among n i e k path other =
          let foreign : is_foreign r m n ≡ true = foreign_is r m n i e ∙ both _ _ (ap is_some (path_there r n i e ∙ path)) (ap not (same_test r m i.package ∙ other)) in (
            has-contains (foreign_of r m p) n (has_filter (is_foreign r m) (reached_by_package r p) n (all_reached r m is.plan v p at is.worlds is.wanted n i e) foreign),
            (search (std_rules, meaning_there, bare_means)),
          )

      back : (n : ℕ) → Contains (foreign_of r m p) n → (is_some (interface_path r n) ≡ true) × ((i : Interface) → interface_at r n ≡ Some i → is_id m (package_number i.package) ≡ false)
      back n c =
          let foreign = (filter_has (is_foreign r m) (reached_by_package r p) n (contains-has (foreign_of r m p) n c)).1 in
          (first_true (is_some (interface_path r n)) _ foreign, λ i e. other_package n i e foreign)

  -- ---- the package

  pub package_is : planned.package_meaning (plan_of r m) (planned_package p) ≡ meant.package_meaning r m p
  package_is = λ j. record {
    identity = identity_of p.name;
    interfaces = named_means (λ (id : InterfaceId). id.0) (planned.interface_meaning_in (plan_of r m)) (λ id. interface_meaning_at r id.0) (λ id. interface_at_is r m id.0) p.interfaces.entries j;
    worlds = named_means (λ (id : WorldId). id.0) (planned.world_meaning_in (plan_of r m)) (λ id. meant.world_meaning_at r id.0) (λ id. world_at_is r m id.0) p.worlds.entries j;
    foreign = foreign_are j;
  }

-- The plan means what its main package means.
pub plan_means : (r : Resolve) (m : ℕ) → IsPackagePlan (plan_of r m) → IsValid r → plan_meaning (plan_of r m) ≡ option_map (meant.package_meaning r m) (package_at r m)
unfolding plan_meaning
plan_means r m is v = search (std_rules, plan_of, get_of_map, package_is)

pub package_means : (p : Plan) (r : Resolve) → IsPackagePlan p → IsBuilt p r → (x : PackageMeaning) → Meant r p.main x ↔ (plan_meaning p ≡ Some x)
unfolding Meant
package_means p r is built x =
    search (std_rules, plan_means r p.main (subst IsPackagePlan (sym (plan_is p r built)) is) (built_is_valid p r is.plan built), plan_is p r built, built_is_valid p r is.plan built)
