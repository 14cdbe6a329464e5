-- What is built from a plan that was read is valid.
use Rattle.std.proofs.Common.{◌≡◌, sym, subst, ℕ, true}
use Rattle.std.specs.List.{list_all}
use Rattle.wit_model.specs.declared.model.Resolve.{Resolve}
use Rattle.wit_model.specs.{Names.is_version, Rules.passes, Valid.IsValid}
use Rattle.plan_meaning.specs.{Plan.Plan, PlanRules.IsPlan, Built.IsBuilt, Built.IsBare}
use Rattle.plan_meaning.proofs.{Words.plan_of, Owning.owners_kept}
use Rattle.plan_meaning.proofs.{KindRules.shapes_kept, KindRules.named_kinds_kept, Depths.depths_kept, Listed.names_in_packages_kept, Listed.package_names_kept}
use Rattle.plan_meaning.proofs.{ResourceMarks.handles_kept, Labels.labels_kept, WorldItems.world_items_kept, NumbersInRange.numbers_kept, Places.places_kept}
use Rattle.plan_meaning.proofs.{FunctionNames.function_names_kept, TypeOrder.order_of_types_kept, ItemOrder.order_of_items_kept, DistinctKeys.keys_are_distinct}

pub rules_kept : (r : Resolve) (m : ℕ) → IsPlan (plan_of r m) → list_all (λ k. passes is_version k.name.version) r.packages.items ≡ true → IsBare r → IsValid r
rules_kept r m is versions bare = record {
  distinct_keys = keys_are_distinct r m is;
  rules = record {
    numbers_in_range = numbers_kept r m is;
    package_names = package_names_kept r m is versions;
    places = places_kept r m is;
    labels = labels_kept r m is bare;
    order_of_types = order_of_types_kept r m is;
    owners = owners_kept r m is;
    shapes = shapes_kept r m is;
    named_kinds = named_kinds_kept r m is;
    handles = handles_kept r m is;
    depths = depths_kept r m is;
    function_names = function_names_kept r m is;
    world_items = world_items_kept r m is;
    order_of_items = order_of_items_kept r m is;
    names_in_packages = names_in_packages_kept r m is;
  };
}

-- the plan is the one that the `Resolve` shows
pub plan_is : (p : Plan) (r : Resolve) → IsBuilt p r → plan_of r p.main ≡ p
plan_is p r built = λ i. record { packages = built.packages i; interfaces = built.interfaces i; worlds = built.worlds i; types = built.types i; main = p.main }

pub built_is_valid : (p : Plan) (r : Resolve) → IsPlan p → IsBuilt p r → IsValid r
built_is_valid p r is built = rules_kept r p.main (subst IsPlan (sym (plan_is p r built)) is) built.versions built.bare
