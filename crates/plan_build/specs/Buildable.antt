-- When a `Resolve` can be built of a plan.
use Rattle.std.specs.{Prelude.◌≡◌, Prelude.Bool, Prelude.true, Prelude.◌&&◌, List.list_all}
use Rattle.wit_model.specs.{Names.is_optional_version, Rules.are_distinct}
use Rattle.plan_meaning.specs.Plan.{Plan, PlannedPackage, PlannedInterface, PlannedWorld}
use Rattle.plan_meaning.specs.PlanRules.{IsPlan, names_of, keys_differ}

-- the version is one of Semantic Versioning 2.0.0
abbrev pub has_version : PlannedPackage → Bool
has_version k = is_optional_version k.identity.version

-- the names of a package's interfaces differ, and those of its worlds
abbrev pub package_differs : PlannedPackage → Bool
package_differs k = are_distinct (names_of k.interfaces) && are_distinct (names_of k.worlds)

-- the names of an interface's types differ, and those of its functions
abbrev pub interface_differs : PlannedInterface → Bool
interface_differs i = are_distinct (names_of i.types) && are_distinct (names_of i.functions)

-- the keys of a world's imports differ, and those of its exports
abbrev pub world_differs : PlannedWorld → Bool
world_differs w = keys_differ w.imports && keys_differ w.exports

-- The versions are versions (Semantic Versioning 2.0.0), and no map gets a key twice.
pub record IsBuildable (p : Plan) : Type 0 where
  pub versions : list_all has_version p.packages ≡ true
  pub packages : list_all package_differs p.packages ≡ true
  pub interfaces : list_all interface_differs p.interfaces ≡ true
  pub worlds : list_all world_differs p.worlds ≡ true

-- So it is with a plan that was read.
abbrev pub PlansAreBuildable : Type 0
PlansAreBuildable = (p : Plan) → IsPlan p → IsBuildable p
