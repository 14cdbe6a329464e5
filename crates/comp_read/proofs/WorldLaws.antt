-- What is built of the plan of one world.
use Rattle.std.proofs.Common.{rules as std_rules, ◌≡◌, refl, sym, ap, subst, ◌∙◌, ℕ, zero, suc, ◌+◌, ◌<◌, ◌≤◌, arith, Bool, true, List, [], ◌∷◌, map, length, slice_get, Option, Some, None, option_map}
use Rattle.std.proofs.lemmas.{List.length-map, Slice.Zip.AllZip-long as zip_length}
use Rattle.wit_model.specs.declared.model.{Package.Package, Resolve.Resolve, World.World}
use Rattle.wit_model.specs.{Lookup.package_at, Lookup.world_at, Meaning.PackageMeaning, Meaning.WorldPackage, Meant.Meant, Meant.MeantWorld, Valid.IsValid}
use Rattle.wit_model.specs.Names.{PackageIdentity}
use Rattle.plan_meaning.specs.{Built.IsBuilt, Built.planned_package, Built.planned_world, Plan.Plan, Plan.PlannedPackage, Plan.package_in, Plan.PlannedWorld}
use Rattle.plan_meaning.specs.{PlanMeaning.package_meaning, PlanMeaning.plan_meaning, Shapes.Shape, NumberedViews.Tables, PlanRules.IsPlan}
use Rattle.plan_meaning.proofs.NothingElse.{package_holds_alone, world_holds_alone}
use Rattle.plan_build.specs.{Buildable.IsBuildable, MeansPlan.MeansPlan}
use Rattle.plan_build.proofs.BuildableLaws.{plans_are_buildable}
use Rattle.plan_parts.specs.{Kept.AreMarked, Marks.is_marked, Marks.IsUsed, Marks.PartsFall, Marks.marked, Marks.part}
use Rattle.plan_type_laws.proofs.ShownRules.{mark_there}
use Rattle.read_exports.specs.declared.members.Member.{Member}
use Rattle.plan_types.specs.{PlannedTypes.PlansType, Used.TypesFall}
use Rattle.plan_package.specs.{PlanWhole.owners_in, PlanWhole.shown_first, PlanWhole.PlansWhole, WholeInterfaces.Home}
use Rattle.comp_read.specs.{Decoded.HoldsFound, Planned.IsBuiltOf, Planned.MeansFound, Planned.PlansMean, Planned.MeansWorldFound, Planned.WorldPlansMean}
use Rattle.comp_read.specs.{Order.OthersRise, Order.PackagesRise, DecodedWorlds.HoldsWorldFound}
use Rattle.comp_read.proofs.ShownOrder.{others_rise, plan_others_rise, built_rise}
use Rattle.base_lemmas.proofs.{Elements.all_at, Lists.get_back, Options.there}
use Rattle.plan_laws.proofs.MetNames.{within as mark_within}
use Rattle.wit_model.proofs.RulesLemmas.{is_id_some as id_is}

-- ---- What is built of the plan of a package.

-- ---- what it holds

means_some : (p : Plan) (k : PlannedPackage) → package_in p p.main ≡ Some k → plan_meaning p ≡ Some (package_meaning p k)
unfolding plan_meaning
means_some p k at = ap (option_map (package_meaning p)) at

module _ (p : Plan) (r : Resolve) (found : Option PackageMeaning) (is : MeansFound found p) (built : IsBuildable p → IsBuilt p r) (valid : IsPlan p → IsValid r) (meant : MeansPlan p r) (others : OthersRise p p.main) where
  are_built : IsBuilt p r
  are_built = built (plans_are_buildable p is.plan.plan)

  main : (k : PlannedPackage) × (package_in p p.main ≡ Some k)
  main = there (package_in p p.main) is.plan.main

  stands : (q : Package) × (package_at r p.main ≡ Some q) × (planned_package q ≡ main.0)
  stands = get_back planned_package r.packages.items p.main main.0 (ap (λ (ks : List PlannedPackage). slice_get ks p.main) are_built.packages ∙ main.1)

  pub holds : HoldsFound found r p.main
  holds = record {
    valid = valid is.plan.plan;
    bare = are_built.bare;
    package_ = stands.0;
    stands = stands.1;
    alone = package_holds_alone p r is.plan are_built stands.0 stands.1;
    listed = others_rise p r are_built p.main others;
    meaning = package_meaning p main.0;
    is = sym is.means ∙ means_some p main.0 main.1;
    meant = λ m. (subst (λ (o : Option PackageMeaning). (Meant r p.main m → o ≡ Some m) × ((o ≡ Some m) → Meant r p.main m)) is.means (meant.package_ is.plan m));
  }

-- ---- how many types there are

-- a type that is used is one of the table
used_within : (parts : List (List ℕ)) → PartsFall parts → (roots : List Bool) → length roots ≡ length parts → (n : ℕ) → IsUsed parts roots n → n < length parts
used_within parts fall roots many n (marked m e) = let within = mark_within roots n e in omega (arith, within, many)
used_within parts fall roots many n (part m k ks used at in_parts) = search (std_rules, all_at (λ k. k < 14 + m) ks (fall m ks at) (14 + n) in_parts, used_within parts fall roots many m used)

earlier : {A : Type 0} (xs : List A) (j : ℕ) (x : A) → slice_get xs (suc j) ≡ Some x → (y : A) × (slice_get xs j ≡ Some y)
earlier [] j x e = let wrong : None ≡ Some x = e in absurd cc
earlier (z ∷ xs) zero x e = (z, refl)
earlier (z ∷ xs) (suc j) x e = earlier xs j x e

last_of : {A : Type 0} (x : A) (xs : List A) → (y : A) × (slice_get (x ∷ xs) (length xs) ≡ Some y)
last_of x [] = (x, refl)
last_of x (z ∷ xs) = last_of z xs

module _ (marks : List Bool) (kept : List ℕ) (are : AreMarked marks kept) where
  rises : (j m n : ℕ) → slice_get kept j ≡ Some m → slice_get kept (suc j) ≡ Some n → m < n
  rises j m n a b = search std_rules

  pub at_least : (j n : ℕ) → slice_get kept j ≡ Some n → j ≤ n
  at_least zero n e = omega arith
  at_least (suc j) n e =
      let before = earlier kept j n e in
      omega (arith, at_least j before.0 before.1, rises j before.0 n before.1 e)

few_kept : (marks : List Bool) (kept : List ℕ) → AreMarked marks kept → (bound : ℕ) → ((n : ℕ) → is_marked marks n ≡ true → n < bound) → length kept ≤ bound
few_kept marks [] are bound below = omega arith
few_kept marks (x ∷ kept) are bound below =
    let last = last_of x kept in
    omega (arith, (at_least marks (x ∷ kept) are (length kept) last.0 last.1), below last.0 (mark_there marks last.0 (are.among (length kept) last.0 last.1)))

module _ (t : Tables) (fall : TypesFall t) (packages : List PackageIdentity) (homes : ℕ → Option Home) (main : ℕ) (ms : List Member) (p : Plan) (planned : PlansWhole t packages homes main ms p) where
  abbrev all_parts : List (List ℕ)
  all_parts = map (λ (s : Shape). s.parts) t.shapes

  many_parts : length all_parts ≡ length t.shapes
  many_parts = length-map t.shapes (λ (s : Shape). s.parts)

  pub few_planned : length p.types ≤ length t.shapes
  few_planned =
      let used = planned.kept_for.used in
      let few = few_kept planned.kept_for.marks planned.kept planned.kept_for.marked (length t.shapes) (λ n e.
      let within = used_within all_parts fall used.roots (used.many ∙ sym many_parts) n ((used.marked n).0 e) in
      subst (λ (k : ℕ). n < k) many_parts within) in
      omega (arith, zip_length (PlansType t planned.kept (shown_first ms) (owners_in ms)) planned.kept p.types planned.types, few)

  pub few_built : (r : Resolve) → IsBuilt p r → length r.types.items ≤ length t.shapes
  few_built r built = search (std_rules, length-map, few_planned)

-- ---- what is built of members that are a package

module _ (t : Tables) (packages : List PackageIdentity) (homes : ℕ → Option Home) (n : ℕ) (ms : List Member) (r : Resolve) (main : ℕ) (is : IsBuiltOf t packages homes n ms r main) (found : Option PackageMeaning) (mean : PlansMean t packages homes n ms found) where
  meant_found : MeansFound found is.plan
  meant_found = mean is.plan is.planned is.fits

  pub package_built : HoldsFound found r main
  package_built = subst (HoldsFound found r) is.main_is (holds is.plan r found meant_found is.built is.valid is.meant others)
    where
      others : OthersRise is.plan is.plan.main
      others = subst (OthersRise is.plan) (sym is.planned.main) (plan_others_rise t packages homes n ms is.plan is.planned)

  pub few_in_package : TypesFall t → length r.types.items ≤ length t.shapes
  few_in_package fall = few_built t fall packages homes n ms is.plan is.planned r (is.built (plans_are_buildable is.plan meant_found.plan.plan))

-- ---- what the page is for

module _ (p : Plan) (r : Resolve) (found : Option WorldPackage) (is : MeansWorldFound found p) (built : IsBuildable p → IsBuilt p r) (valid : IsPlan p → IsValid r) (meant : MeansPlan p r) (rises : PackagesRise p) where
  resolve_built : IsBuilt p r
  resolve_built = built (plans_are_buildable p is.plan.plan)

  -- the one world
  one_stands : (w : World) × (world_at r 0 ≡ Some w) × (planned_world w ≡ is.plan.world)
  one_stands = get_back planned_world r.worlds.items 0 is.plan.world (ap (λ (ws : List PlannedWorld). slice_get ws 0) (resolve_built.worlds ∙ is.plan.alone))

  pub holds_world : HoldsWorldFound found r p.main
  holds_world = record {
    valid = valid is.plan.plan;
    bare = resolve_built.bare;
    world = one_stands.0;
    stands = one_stands.1;
    home = ap (λ (w : PlannedWorld). w.package_) one_stands.2 ∙ id_is p.main is.plan.world.package_ is.plan.home;
    alone = world_holds_alone p r is.plan resolve_built one_stands.0 one_stands.1;
    listed = built_rise p r resolve_built rises;
    meaning = is.meaning;
    is = is.is;
    meant = λ m. (subst (λ (o : Option WorldPackage). (MeantWorld r 0 m → o ≡ Some m) × ((o ≡ Some m) → MeantWorld r 0 m)) is.means (meant.world is.plan m));
  }

-- ---- what is built of members that are one

module _ (t : Tables) (packages : List PackageIdentity) (homes : ℕ → Option Home) (n : ℕ) (ms : List Member) (r : Resolve) (main : ℕ) (is : IsBuiltOf t packages homes n ms r main) (found : Option WorldPackage) (mean : WorldPlansMean t packages homes n ms found) where
  world_meant : MeansWorldFound found is.plan
  world_meant = mean is.plan is.planned is.fits

  pub world_built : ((p : Plan) → PlansWhole t packages homes n ms p → PackagesRise p) → HoldsWorldFound found r main
  world_built rises = subst (HoldsWorldFound found r) is.main_is (holds_world is.plan r found world_meant is.built is.valid is.meant (rises is.plan is.planned))

  pub few_in_world : TypesFall t → length r.types.items ≤ length t.shapes
  few_in_world fall = few_built t fall packages homes n ms is.plan is.planned r (is.built (plans_are_buildable is.plan world_meant.plan.plan))
