-- A plan, whole.
use Rattle.std.proofs.Common.{rules as std_rules, ◌≡◌, sym, ◌∙◌, ℕ, arith, List, [], ◌∷◌, length, Option, Some, slice_get}
use Rattle.std.proofs.lemmas.Option.{slice_get_within as below}
use Rattle.std.specs.List.{AllByRecursion, AllZip}
use Rattle.wit_model.specs.declared.model.TypeOwner.{TypeOwner}
use Rattle.wit_model.specs.Names.{PackageIdentity}
use Rattle.plan_meaning.specs.{NumberedViews.Tables, Plan.Plan, Plan.PlannedType, Shapes.Shape}
use Rattle.read_exports.specs.declared.members.Member.{Member}
use Rattle.read_exports.specs.Members.{numbered_members}
use Rattle.plan_types.specs.declared.showings.Showing.{Showing}
use Rattle.plan_types.specs.{FirstShown.first_showing, FirstShown.showing_at, FirstShown.TellsFirst, Orders.homes_met, Showings.NumberedShowing}
use Rattle.plan_types.specs.PlannedTypes.{owner_in, MayBePlanned, PlansType, a_form, a_name, named, unnamed}
use Rattle.plan_package.specs.{PlanWhole.places_in, PlanWhole.shown_first, PlanWhole.AreKeptFor, PlanWhole.PlansWhole, WholePackages.PlansPackages}
use Rattle.plan_package.specs.{Views.views_of_members, WholeInterfaces.Home, WholeInterfaces.PlansPlace, WholeWorlds.worlds_in, WholeWorlds.PlansWorld}

-- a table that tells what each type is shown as first
module _ (t : Tables) (kept : List ℕ) (showings : List NumberedShowing) (table : List (Option Showing)) (many : length table ≡ length t.shapes) (told : TellsFirst showings table) where
  shown_at : (n : ℕ) (s : Shape) → slice_get t.shapes n ≡ Some s → showing_at table n ≡ first_showing n showings
  shown_at n s at = let within = below t.shapes n s at in told n (omega (arith, within, many))

  one_may : (n : ℕ) → MayBePlanned t kept (λ n. first_showing n showings) n → MayBePlanned t kept (showing_at table) n
  one_may n (a_form s at no_name over) = a_form s at no_name over
  one_may n (a_name s q name x at is shown may) = a_name s q name x at is (shown_at n s at ∙ shown) may

  pub all_may : (ns : List ℕ) → AllByRecursion (MayBePlanned t kept (λ n. first_showing n showings)) ns → AllByRecursion (MayBePlanned t kept (showing_at table)) ns
  all_may [] all = tt
  all_may (n ∷ ns) all = (one_may n all.0, all_may ns all.1)

  module _ (owners : ℕ → TypeOwner) where
    one_planned : (n : ℕ) (x : PlannedType) → PlansType t kept (showing_at table) owners n x → PlansType t kept (λ n. first_showing n showings) owners n x
    one_planned n x (unnamed s at none name owner id is) = unnamed s at none name owner id is
    one_planned n x (named s q name y at is shown under owner id kind) = named s q name y at is (sym (shown_at n s at) ∙ shown) under owner id kind

    pub all_planned : (ns : List ℕ) (xs : List PlannedType) → AllZip (PlansType t kept (showing_at table) owners) ns xs → AllZip (PlansType t kept (λ n. first_showing n showings) owners) ns xs
    all_planned [] [] all = tt
    all_planned [] (x ∷ xs) all = absurd all
    all_planned (n ∷ ns) [] all = absurd all
    all_planned (n ∷ ns) (x ∷ xs) all = (one_planned n x all.0, all_planned ns xs all.1)

module _ (t : Tables) (packages : List PackageIdentity) (homes : ℕ → Option Home) (main : ℕ) (ms : List Member) where
  pub plans_whole : (places : List ℕ) → places ≡ places_in ms → (kept : List ℕ) → AreKeptFor t ms kept → (p : Plan)
      → AllZip (PlansType t kept (shown_first ms) (owner_in places (homes_met (numbered_members ms)))) kept p.types
      → AllZip (PlansPlace t kept main homes (views_of_members (numbered_members ms))) places p.interfaces → AllZip (PlansWorld t kept places main) (worlds_in ms) p.worlds
      → PlansPackages packages homes main places ms p.packages → p.main ≡ main → PlansWhole t packages homes main ms p
  plans_whole places same kept kept_for p types interfaces worlds listed main_is = search std_rules
