-- A world that is built from a plan of it means what the plan means as a world.
use Rattle.std.proofs.Common.{rules as std_rules, ◌≡◌, refl, sym, ap, ◌∙◌, ℕ, true, [], map, filter_map, option_map, option_and_then, Option, Some, None, slice_get, unwrap_or, is_some, subst}
use Rattle.std.proofs.lemmas.{Bool.eqb-true, Option.slice_get-map as get_of_map}
use Rattle.std.specs.{Prelude.◌↔◌, List.Contains, FinMap.from_entries}
use Rattle.wit_model.specs.declared.model.{Resolve.Resolve, Package.Package, PackageId.PackageId, Interface.Interface, World.World}
use Rattle.wit_model.specs.{Text.Text, Text.TextMap, Text.text_of, Uses.has, Uses.items_of, Uses.shown_by, Rules.is_id}
use Rattle.wit_model.specs.Lookup.{package_at, interface_at, world_at, interface_path, path_of_interface, identity_of}
use Rattle.wit_model.specs.{Meaning.InterfaceMeaning, Meaning.WorldPackage, Meant.MeantWorld, Meant.interface_meaning_at, Meant.package_of_world, Valid.IsValid}
use Rattle.wit_model.proofs.{Elements.has-contains, Elements.contains-has, UsesLemmas.has_filter, UsesLemmas.filter_has, MeantLemmas.meaning_there}
use Rattle.plan_meaning.specs.{Plan.Plan, Plan.PlannedWorld, Plan.package_in, PlanMeaning.plan_world_meaning, PlanMeaning.shown_entry}
use Rattle.plan_meaning.specs.{PlanRules.IsWorldPlan, Built.IsBuilt, Built.planned_interface, Built.planned_world, Built.planned_package}
use Rattle.plan_meaning.proofs.{Lists.no_true, Words.plan_of, Meanings.world_is, Reaching.shows_is, Valid.plan_is, Valid.built_is_valid}
use Rattle.plan_meaning.proofs.PackageMeans.{path_there, named, shown_is, shown_of, entries_are}
use Rattle.base_lemmas.proofs.Lists.{get_back}
use Rattle.wit_model.specs.Uses as uses
use Rattle.wit_model.specs.Meant as meant
use Rattle.plan_meaning.specs.PlanRules as rules
use Rattle.plan_meaning.specs.PlanMeaning as planned

module _ (r : Resolve) (m : ℕ) (is : IsWorldPlan (plan_of r m)) (v : IsValid r) (w : World) (same : planned_world w ≡ is.world) where
  shown_are : ◌≡◌ {A = TextMap InterfaceMeaning} (from_entries (filter_map (shown_entry (plan_of r m)) (map planned_interface r.interfaces.items)))
      (from_entries (map (λ n. (unwrap_or (interface_path r n) [], interface_meaning_at r n)) (shown_by r w)))
  shown_are = entries_are r v (shown_entry (plan_of r m)) (λ i. Unit {0}) (λ i k x e. let found = shown_is r m i k x e in (tt, found.0, found.1)) (λ i k passes path. shown_of r m i k path)
      (shown_by r w) (interface_meaning_at r) among (λ n c. ((filter_has (λ n. is_some (interface_path r n)) (filter_map uses.item_interface (items_of w)) n (contains-has _ n c)).1, λ i e. tt))
    where
      among : (n : ℕ) (i : Interface) → interface_at r n ≡ Some i → (k : Text) → path_of_interface r i ≡ Some k → Unit {0} → Contains (shown_by r w) n ×
          (interface_meaning_at r n ≡ meant.interface_meaning r i)
      among n i e k path passes =
          let shows = is.shows n (planned_interface i) (get_of_map planned_interface r.interfaces.items n ∙ ap (option_map planned_interface) e) (named r i k path) in
          let items : has (filter_map uses.item_interface (items_of w)) n ≡ true = sym (shows_is n w) ∙ (ap (λ y. rules.is_shown_in y n) same ∙ shows) in (
            has-contains (shown_by r w) n (has_filter (λ n. is_some (interface_path r n)) (filter_map uses.item_interface (items_of w)) n items (ap is_some (path_there r n i e ∙ path))),
            meaning_there r n i e,
          )

  pub world_package_is : (p : Package) → planned.world_package (plan_of r m) (planned_package p) (planned_world w) ≡ meant.world_package r p w
  world_package_is p = λ j. record { identity = identity_of p.name; name = text_of w.name; world = world_is r m w j; shown = shown_are j }

-- The plan means what its first world means.
pub world_plan_means : (r : Resolve) (m : ℕ) → IsWorldPlan (plan_of r m) → IsValid r
    → plan_world_meaning (plan_of r m) ≡ option_and_then (λ w. option_map (λ p. meant.world_package r p w) (package_of_world r w)) (world_at r 0)
unfolding plan_world_meaning
world_plan_means r m is v =
    let first = get_back planned_world r.worlds.items 0 is.world (ap (λ xs. slice_get xs 0) is.alone) in
    at first.0 first.1 first.2
  where
    home : (w : World) (o : Option PackageId) → w.package ≡ o → is_id m (option_map (λ id. id.0) o) ≡ true → package_of_world r w ≡ package_at r m
    home w None e h = no_true h
    home w (Some id) e h = ap (option_and_then (λ p. package_at r p.0)) e ∙ ap (package_at r) (eqb-true id.0 m h)

    by : (w : World) → planned_world w ≡ is.world → (o : Option Package)
        → option_and_then (λ k. option_map (planned.world_package (plan_of r m) k) (Some (planned_world w))) (option_map planned_package o) ≡ option_map (λ p. meant.world_package r p w) o
    by w same None = refl
    by w same (Some p) = ap Some (world_package_is r m is v w same p)

    at : (w : World) → world_at r 0 ≡ Some w → planned_world w ≡ is.world
        → option_and_then (λ k. option_map (planned.world_package (plan_of r m) k) (slice_get (map planned_world r.worlds.items) 0)) (package_in (plan_of r m) m) ≡ option_and_then
        (λ w. option_map (λ p. meant.world_package r p w) (package_of_world r w)) (world_at r 0)
    at w there same =
        let planned_there : slice_get (map planned_world r.worlds.items) 0 ≡ Some (planned_world w) = get_of_map planned_world r.worlds.items 0 ∙ ap (option_map planned_world) there in
        let found = home w w.package refl (ap (λ (y : PlannedWorld). is_id m y.package_) same ∙ is.home) in
        ap (λ o. option_and_then (λ k. option_map (planned.world_package (plan_of r m) k) o) (package_in (plan_of r m) m)) planned_there
        ∙ (ap (option_and_then (λ k. option_map (planned.world_package (plan_of r m) k) (Some (planned_world w)))) (get_of_map planned_package r.packages.items m)
        ∙ (by w same (package_at r m)
        ∙ (ap (option_map (λ p. meant.world_package r p w)) (sym found) ∙ ap (option_and_then (λ w. option_map (λ p. meant.world_package r p w) (package_of_world r w))) (sym there))))

pub world_means : (p : Plan) (r : Resolve) → IsWorldPlan p → IsBuilt p r → (x : WorldPackage) → MeantWorld r 0 x ↔ (plan_world_meaning p ≡ Some x)
unfolding MeantWorld
world_means p r is built x =
    search (std_rules, world_plan_means r p.main (subst IsWorldPlan (sym (plan_is p r built)) is) (built_is_valid p r is.plan built), plan_is p r built, built_is_valid p r is.plan built)
