-- What is merged of two valid ones is valid.
use Rattle.bind_union.specs.Laws.{MergedIsValid}
use Rattle.bind_union.proofs.Kept.{labels_kept, owners_kept, shapes_kept, named_kinds_kept, handles_kept, depths_kept, function_names_kept, world_items_kept, order_of_items_kept, order_of_types_kept, numbers_in_range_kept}
use Rattle.bind_union.proofs.{KeptPackages.names_in_packages_kept, KeptPackages.package_names_kept, KeptPlaces.places_kept}

pub merged_is_valid : MergedIsValid
merged_is_valid own other merged bound other_bound first second left_out valid_own valid_other distinct is = record {
  distinct_keys = distinct;
  rules = record {
    numbers_in_range = numbers_in_range_kept own other merged bound other_bound first second left_out valid_own.rules valid_other.rules is;
    package_names = package_names_kept own other merged bound other_bound first second left_out valid_own.rules valid_other.rules is;
    places = places_kept own other merged bound other_bound first second left_out valid_own.rules valid_other.rules is;
    labels = labels_kept own other merged bound other_bound first second left_out valid_own.rules valid_other.rules is;
    order_of_types = order_of_types_kept own other merged bound other_bound first second left_out valid_own.rules valid_other.rules is;
    owners = owners_kept own other merged bound other_bound first second left_out valid_own.rules valid_other.rules is;
    shapes = shapes_kept own other merged bound other_bound first second left_out valid_own.rules valid_other.rules is;
    named_kinds = named_kinds_kept own other merged bound other_bound first second left_out valid_own.rules valid_other.rules is;
    handles = handles_kept own other merged bound other_bound first second left_out valid_own.rules valid_other.rules is;
    depths = depths_kept own other merged bound other_bound first second left_out valid_own.rules valid_other.rules is;
    function_names = function_names_kept own other merged bound other_bound first second left_out valid_own.rules valid_other.rules is;
    world_items = world_items_kept own other merged bound other_bound first second left_out valid_own.rules valid_other.rules is;
    order_of_items = order_of_items_kept own other merged bound other_bound first second left_out valid_own.rules valid_other.rules is;
    names_in_packages = names_in_packages_kept own other merged bound other_bound first second left_out valid_own.rules valid_other.rules is;
  };
}
