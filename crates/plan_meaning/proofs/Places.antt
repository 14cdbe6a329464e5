-- Interfaces and worlds stand in the places that they say.
use Rattle.std.proofs.Common.{rules as std_rules, ◌≡◌, refl, sym, ap, ◌∙◌, ℕ, ◌+◌, Bool, true, false, ◌&&◌, ◌||◌, ◌==◌, not, cond, List, [], ◌∷◌, ◌++◌, map, option_map, option_and_then, Option, Some, None, is_some, String}
use Rattle.std.proofs.lemmas.{List.Folds.list_all-map, List.Folds.fold-map as fold_of_map, Bool.and_from as both, Bool.or_left as or_first}
use Rattle.std.proofs.lemmas.{Slice.Eq.bytes_eq-Decides, Option.slice_get-map as get_of_map}
use Rattle.std.specs.{Prelude.fold, Prelude.sum_by, List.list_all, List.list_any, Option.option_map_or, Option.option_eq, HashMap.get_by_text}
use Rattle.std.specs.declared.alloc.Global.{Global}
use Rattle.indexmap.specs.IndexMap.{keys}
use Rattle.wit_model.specs.declared.model.{Resolve.Resolve, Package.Package, PackageId.PackageId, InterfaceId.InterfaceId, WorldId.WorldId}
use Rattle.wit_model.specs.declared.model.World.{World}
use Rattle.wit_model.specs.{Text.Text, Text.text_of, Text.text_eq, Text.optional_text, Lookup.package_at, Valid.Keeps, Valid.places}
use Rattle.wit_model.specs.Rules.{each_from, is_id, package_number, are_distinct, interface_belongs, world_belongs, interface_is_listed, world_is_listed, names_itself, is_world_name}
use Rattle.wit_model.proofs.{Entries.free_passes, Checks.keeps_lists, RulesLemmas.each_at, RulesLemmas.each_by_number}
use Rattle.plan_meaning.specs.{Plan.number_under, Plan.package_in, Built.planned_world, Built.planned_package}
use Rattle.plan_meaning.specs.PlanRules.{IsPlan, names_of, members_differ}
use Rattle.plan_meaning.proofs.{Lists.all_of_map, Lists.each_built, Lists.no_true, Lists.all_there, Labels.apart, Labels.names_are, Labels.keys_apart}
use Rattle.plan_meaning.proofs.{Words.plan_of, FunctionRules.items_are}
use Rattle.plan_meaning.proofs.{Listed.interface_listed, Listed.world_listed, Listed.members_pass, Listed.passes_both, WorldItems.item_interface_is}
use Rattle.base_lemmas.proofs.{Bools.left_of as first_true, Bools.right_of as second_true, Elements.any_of_map, Elements.all_weaker, Maps.lookup_of_map}
use Rattle.wit_model.specs.Rules as rules
use Rattle.plan_meaning.specs.PlanRules as planned

-- ---- what stands under a name

-- what passes for each name passes for one under which something stands
pub under_passes : (test : Text → Bool) (name : Text) (n : ℕ) (es : List (Text × ℕ)) → is_id n (number_under name es) ≡ true → list_all (λ e. test e.0) es ≡ true → test name ≡ true
under_passes test name n [] h all = no_true h
under_passes test name n (e ∷ es) h all = go (text_eq name e.0) refl (under_passes test name n es) h
  where
    go : (b : Bool) → text_eq name e.0 ≡ b → (is_id n (number_under name es) ≡ true → list_all (λ x. test x.0) es ≡ true → test name ≡ true) → is_id n (cond b (Some e.1) (number_under name es)) ≡ true
        → test name ≡ true
    go true same rest h = let equal : name ≡ e.0 = (bytes_eq-Decides name e.0).0 same in ap test equal ∙ first_true (test e.0) _ all
    go false same rest h = rest h (second_true (test e.0) _ all)

-- the number under a name of a package's list
pub interface_number : (p : Package) (name : Text) → number_under name (planned_package p).interfaces ≡ option_map (λ id. id.0) (get_by_text p.interfaces name)
interface_number p name = lookup_of_map (text_eq name) text_of (λ (id : InterfaceId). id.0) p.interfaces.entries

pub world_number : (p : Package) (name : Text) → number_under name (planned_package p).worlds ≡ option_map (λ id. id.0) (get_by_text p.worlds name)
world_number p name = lookup_of_map (text_eq name) text_of (λ (id : WorldId). id.0) p.worlds.entries

-- no name of an interface of a package is that of a world
no_world : (p : Package) (name : Text) (n : ℕ) → members_differ (planned_package p) ≡ true → is_id n (number_under name (planned_package p).interfaces) ≡ true → not (is_world_name p name) ≡ true
no_world p name n h is = ap not (sym (ap (list_any (text_eq name)) (names_are (λ (id : WorldId). id.0) p.worlds.entries) ∙ any_of_map (text_eq name) text_of (keys p.worlds)))
    ∙ under_passes (λ t. not (list_any (text_eq t) (names_of (planned_package p).worlds))) name n (planned_package p).interfaces is
    (sym (list_all-map (λ t. not (list_any (text_eq t) (names_of (planned_package p).worlds))) (λ e. e.0) (planned_package p).interfaces)
    ∙ apart (names_of (planned_package p).interfaces) (names_of (planned_package p).worlds) h)

-- ---- how often an interface is shown

times_are : (n : ℕ) (w : World) → planned.times_shown n (planned_world w) ≡ rules.times_shown n w
times_are n w = search (std_rules, items_are, fold_of_map, item_interface_is)

module _ (r : Resolve) (m : ℕ) (is : IsPlan (plan_of r m)) where
  -- ---- packages

  interface_there : (n : ℕ) (e : String Global × InterfaceId) → planned.lists_interface (plan_of r m) n (text_of e.0, e.1.0) ≡ true → interface_belongs r n e ≡ true
  interface_there n e h = search (std_rules, interface_listed r m is n e h)

  world_there : (n : ℕ) (e : String Global × WorldId) → planned.lists_world (plan_of r m) n (text_of e.0, e.1.0) ≡ true → world_belongs r n e ≡ true
  world_there n e h = search (std_rules, world_listed r m is n e h, passes_both, both)

  names_differ : (p : Package) → members_differ (planned_package p) ≡ true → list_all (λ e. not (is_world_name p (text_of e.0)) || names_itself r e) p.interfaces.entries ≡ true
  names_differ p h = all_weaker (λ e. not (is_world_name p (text_of e.0))) (λ e. not (is_world_name p (text_of e.0)) || names_itself r e) (λ e a. or_first _ (names_itself r e) a) p.interfaces.entries
      (sym (list_all-map (λ name. not (is_world_name p (text_of name))) (λ e. e.0) p.interfaces.entries)
      ∙ keys_apart (keys p.interfaces) (keys p.worlds) (ap are_distinct (λ j. sym (names_are (λ (id : InterfaceId). id.0) p.interfaces.entries) j ++ sym
      (names_are (λ (id : WorldId). id.0) p.worlds.entries) j) ∙ h))

  packages_placed : each_from (λ n p. list_all (interface_belongs r n) p.interfaces.entries
      && (list_all (world_belongs r n) p.worlds.entries && list_all (λ e. not (is_world_name p (text_of e.0)) || names_itself r e) p.interfaces.entries)) 0 r.packages.items ≡ true
  packages_placed = each_by_number _ _ (λ n p e.
      let members = each_at (λ n p. list_all (interface_belongs r n) p.interfaces.entries && list_all (world_belongs r n) p.worlds.entries) r.packages.items n p
      (members_pass r m is (interface_belongs r) (world_belongs r) interface_there world_there) e in
      both _ _ (first_true _ _ members) (both _ _ (second_true _ _ members) (names_differ p (all_there planned_package members_differ r.packages.items is.members_differ n p e))))

  -- ---- interfaces

  some_package : (o : Option PackageId) (test : ℕ → Bool) → option_map_or test (option_map (λ id. id.0) o) false ≡ true → is_some o ≡ true
  some_package x test h = search std_rules

  abbrev shown_once : ℕ → Option PackageId → Bool
  shown_once n o = (sum_by (rules.times_shown n) r.worlds.items == 1) && list_all (λ w. (rules.times_shown n w == 0) || option_eq ◌==◌ (package_number w.package) (package_number o)) r.worlds.items

  inline_at : (n : ℕ) (o : Option PackageId) →
      ((sum_by (planned.times_shown n) (map planned_world r.worlds.items) == 1) && list_all (λ w. (planned.times_shown n w == 0) || option_eq ◌==◌ w.package_ (option_map (λ id. id.0) o))
      (map planned_world r.worlds.items)) ≡ shown_once n o
  inline_at n o = λ i. ((fold_of_map (λ a w. a + planned.times_shown n w) planned_world 0 r.worlds.items ∙ ap (λ (h : World → ℕ). fold (λ a w. a + h w) 0 r.worlds.items) (λ i w. times_are n w i)) i ==
      1) && all_of_map (λ w. (planned.times_shown n w == 0) || option_eq ◌==◌ w.package_ (option_map (λ id. id.0) o))
      (λ w. (rules.times_shown n w == 0) || option_eq ◌==◌ (package_number w.package) (package_number o)) planned_world
      (λ w. ap (λ t. (t == 0) || option_eq ◌==◌ (package_number w.package) (package_number o)) (times_are n w)) r.worlds.items i

  interface_by : (n : ℕ) (name : Option (String Global)) (o : Option PackageId) →
      option_map_or (λ t. option_map_or (λ k. is_id n (number_under t k.interfaces)) (option_and_then (package_in (plan_of r m)) (option_map (λ id. id.0) o)) false) (optional_text name)
      (option_map_or (rules.in_list (map planned_package r.packages.items)) (option_map (λ id. id.0) o) false
      && ((sum_by (planned.times_shown n) (map planned_world r.worlds.items) == 1) && list_all (λ w. (planned.times_shown n w == 0) || option_eq ◌==◌ w.package_ (option_map (λ id. id.0) o))
      (map planned_world r.worlds.items))) ≡ true
      → (is_some o && option_map_or (λ s. option_map_or (λ p. interface_is_listed n (text_of s) p && not (is_world_name p (text_of s))) (option_and_then (package_at r) (package_number o)) true) name
      (shown_once n o)) ≡ true
  interface_by n (Some s) o h = search (std_rules, no_true, get_of_map, both, interface_number, no_world, all_there)
  interface_by n None o h = search (std_rules, both, some_package, first_true, inline_at, second_true)

  -- ---- worlds

  world_by : (n : ℕ) (name : Text) (o : Option PackageId)
      → option_map_or (λ k. is_id n (number_under name k.worlds)) (option_and_then (package_in (plan_of r m)) (option_map (λ id. id.0) o)) false ≡ true
      → (is_some o && option_map_or (world_is_listed n name) (option_and_then (package_at r) (package_number o)) true) ≡ true
  world_by n name x h = search (std_rules, no_true, get_of_map, world_number)

  pub places_kept : Keeps places r
  unfolding places
  places_kept = search (std_rules, keeps_lists, packages_placed, each_built, plan_of, interface_by, world_by, free_passes)
