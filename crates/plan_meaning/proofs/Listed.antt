-- What a package lists is in range, of the package, and under its own name; packages are apart.
use Rattle.std.proofs.Common.{rules as std_rules, ◌≡◌, refl, sym, ap, ◌∙◌, ℕ, Bool, true, false, ◌&&◌, ◌||◌, not, ◌==◌, List, length, map, option_map, Option, Some, slice_get, is_some, String}
use Rattle.std.proofs.lemmas.{Option.slice_get_within, Option.slice_get-map as get_of_map, Bool.and_from as both, Bool.lt-ltb}
use Rattle.std.specs.declared.alloc.Global.{Global}
use Rattle.std.specs.{List.list_all, Option.option_map_or}
use Rattle.wit_model.specs.declared.model.{Resolve.Resolve, Package.Package, PackageName.PackageName, InterfaceId.InterfaceId, WorldId.WorldId}
use Rattle.wit_model.specs.{Text.Text, Text.text_of, Text.text_eq, Text.optional_text, Valid.Keeps, Valid.package_names, Valid.names_in_packages}
use Rattle.wit_model.specs.{Names.is_label, Names.is_version, Names.is_identity, Lookup.interface_at, Lookup.world_at, Lookup.package_at, Lookup.identity_of}
use Rattle.wit_model.specs.Rules.{in_list, passes, each_from, is_id, package_number, text_is, same_package_name}
use Rattle.wit_model.proofs.{Entries.packages_keep, VersionLaws.same_name, RulesLemmas.each_by_number}
use Rattle.comp_meaning.specs.Same.{same_identity}
use Rattle.comp_meaning.proofs.SameLaws.{identities_decide}
use Rattle.plan_meaning.specs.PlanRules.{IsPlan, bears, lists_interface, lists_world, is_alone}
use Rattle.plan_meaning.specs.Built.{planned_interface, planned_world, planned_package}
use Rattle.plan_meaning.proofs.{Lists.all_built, Lists.each_built, Lists.each_there, Lists.all_there, Words.plan_of}
use Rattle.base_lemmas.proofs.{Bools.left_of as first_true, Bools.right_of as second_true, Elements.all_get, Options.there as some-of}

-- ---- a name that stands there

pub bears_is : (name : Option (String Global)) (t : Text) → bears t (optional_text name) ≡ text_is name t
bears_is x t = search std_rules

-- what is asked of an entry that has to stand there is asked of one that does
pub there : {A B : Type 0} (g : A → B) (test : B → Bool) (o : Option A) → option_map_or test (option_map g o) false ≡ true → passes (λ x. test (g x)) o ≡ true
there g test x h = search std_rules

pub some_there : {A B : Type 0} (g : A → B) (test : B → Bool) (o : Option A) → option_map_or test (option_map g o) false ≡ true → is_some o ≡ true
some_there g test x h = search std_rules

pub in_range : {A : Type 0} (xs : List A) (n : ℕ) → is_some (slice_get xs n) ≡ true → in_list xs n ≡ true
in_range xs n h = let found = some-of (slice_get xs n) h in lt-ltb n (length xs) (slice_get_within xs n found.0 found.1)

pub passes_weaker : {A : Type 0} (p q : A → Bool) → ((x : A) → p x ≡ true → q x ≡ true) → (o : Option A) → passes p o ≡ true → passes q o ≡ true
passes_weaker p q weaker y h = search std_rules

pub passes_both : {A : Type 0} (p q s : A → Bool) → ((x : A) → p x ≡ true → q x ≡ true → s x ≡ true) → (o : Option A) → passes p o ≡ true → passes q o ≡ true → passes s o ≡ true
passes_both p q s make y h k = search std_rules

-- what is asked of an entry of a list that is made of another
asked : {A B : Type 0} (g : A → B) (test : B → Bool) (p q : A → Bool) → ((x : A) → test (g x) ≡ true → p x ≡ true) → ((x : A) → test (g x) ≡ true → q x ≡ true) → (xs : List A) (n : ℕ)
    → option_map_or test (slice_get (map g xs) n) false ≡ true → (in_list xs n ≡ true) × (passes p (slice_get xs n) ≡ true) × (passes q (slice_get xs n) ≡ true)
asked g test p q one two xs n h = search (std_rules, get_of_map, there, in_range, some_there, passes_weaker)

module _ (r : Resolve) (m : ℕ) (is : IsPlan (plan_of r m)) where
  -- an interface that a package lists, and a world
  pub interface_listed : (n : ℕ) (e : String Global × InterfaceId) → lists_interface (plan_of r m) n (text_of e.0, e.1.0) ≡ true → (in_list r.interfaces.items e.1.0 ≡ true)
      × (passes (λ i. text_is i.name (text_of e.0)) (interface_at r e.1.0) ≡ true) × (passes (λ i. is_id n (package_number i.package)) (interface_at r e.1.0) ≡ true)
  interface_listed n e = asked planned_interface (λ i. bears (text_of e.0) i.name && is_id n i.package_) (λ i. text_is i.name (text_of e.0)) (λ i. is_id n (package_number i.package))
      (λ i k. sym (bears_is i.name (text_of e.0)) ∙ first_true _ _ k) (λ i k. second_true (bears (text_of e.0) (optional_text i.name)) _ k) r.interfaces.items e.1.0

  pub world_listed : (n : ℕ) (e : String Global × WorldId) → lists_world (plan_of r m) n (text_of e.0, e.1.0) ≡ true → (in_list r.worlds.items e.1.0 ≡ true)
      × (passes (λ w. text_eq (text_of w.name) (text_of e.0)) (world_at r e.1.0) ≡ true) × (passes (λ w. is_id n (package_number w.package)) (world_at r e.1.0) ≡ true)
  world_listed n e = asked planned_world (λ w. text_eq w.name (text_of e.0) && is_id n w.package_) (λ w. text_eq (text_of w.name) (text_of e.0)) (λ w. is_id n (package_number w.package))
      (λ w k. first_true _ _ k) (λ w k. second_true (text_eq (text_of w.name) (text_of e.0)) _ k) r.worlds.items e.1.0

  -- what holds of all that a package lists
  module _ (q : ℕ → String Global × InterfaceId → Bool) (s : ℕ → String Global × WorldId → Bool)
      (interfaces : (n : ℕ) (e : String Global × InterfaceId) → lists_interface (plan_of r m) n (text_of e.0, e.1.0) ≡ true → q n e ≡ true)
      (worlds : (n : ℕ) (e : String Global × WorldId) → lists_world (plan_of r m) n (text_of e.0, e.1.0) ≡ true → s n e ≡ true) where
    pub members_pass : each_from (λ n p. list_all (q n) p.interfaces.entries && list_all (s n) p.worlds.entries) 0 r.packages.items ≡ true
    members_pass = search (std_rules, each_built, plan_of, both, all_built, first_true, second_true)

  pub names_in_packages_kept : Keeps names_in_packages r
  unfolding names_in_packages
  names_in_packages_kept = packages_keep (λ r n p. list_all (λ e. passes (λ i. text_is i.name (text_of e.0)) (interface_at r e.1.0)) p.interfaces.entries
      && list_all (λ e. passes (λ w. text_eq (text_of w.name) (text_of e.0)) (world_at r e.1.0)) p.worlds.entries) r
      (members_pass (λ n e. passes (λ i. text_is i.name (text_of e.0)) (interface_at r e.1.0)) (λ n e. passes (λ w. text_eq (text_of w.name) (text_of e.0)) (world_at r e.1.0))
      (λ n e h. (interface_listed n e h).1) (λ n e h. (world_listed n e h).1))

  -- ---- names of packages

  module _ (versions : list_all (λ k. passes is_version k.name.version) r.packages.items ≡ true) where
    version_at : (n : ℕ) (p : Package) → package_at r n ≡ Some p → passes is_version p.name.version ≡ true
    version_at n p e = all_get (λ k. passes is_version k.name.version) r.packages.items n p versions e

    apart : (a b : PackageName) → passes is_version a.version ≡ true → passes is_version b.version ≡ true → not (same_identity (identity_of a) (identity_of b)) ≡ true
        → not (same_package_name a b) ≡ true
    apart a b va vb h = go (same_package_name a b) refl
      where
        go : (c : Bool) → same_package_name a b ≡ c → not c ≡ true
        go false e = refl
        go true e = let one : same_identity (identity_of a) (identity_of b) ≡ true = (identities_decide (identity_of a) (identity_of b)).1 ((same_name a b va vb).0 e) in ap not (sym one) ∙ h

    either : (a b c : Bool) → (b ≡ true → c ≡ true) → (a || b) ≡ true → (a || c) ≡ true
    either true b c f h = refl
    either false b c f h = f h

    named : (n : ℕ) (p : Package) → package_at r n ≡ Some p → is_identity (identity_of p.name) ≡ true → is_alone (plan_of r m) n (planned_package p) ≡ true
        → ((is_label (text_of p.name.namespace) && (is_label (text_of p.name.name) && passes is_version p.name.version)) && each_from (λ k other. (k == n) || not (same_package_name p.name other.name))
        0 r.packages.items) ≡ true
    named n p e identity alone = both _ _ (both _ _ (first_true _ _ identity) (both _ _ (first_true _ _ (second_true _ _ identity)) (version_at n p e)))
        (each_by_number _ _ (λ k other f. either (k == n) (not (same_identity (identity_of p.name) (identity_of other.name))) (not (same_package_name p.name other.name))
        (apart p.name other.name (version_at n p e) (version_at k other f)) (each_there planned_package (λ k other. (k == n) || not (same_identity (identity_of p.name) other.identity))
        r.packages.items alone k other f)))

    pub package_names_kept : Keeps package_names r
    unfolding package_names
    package_names_kept = packages_keep (λ r n p. (is_label (text_of p.name.namespace) && (is_label (text_of p.name.name) && passes is_version p.name.version))
        && each_from (λ k other. (k == n) || not (same_package_name p.name other.name)) 0 r.packages.items) r
        (each_by_number _ _ (λ n p e. named n p e (all_there planned_package (λ k. is_identity k.identity) r.packages.items is.identities n p e)
        (each_there planned_package (is_alone (plan_of r m)) r.packages.items is.alone n p e)))
