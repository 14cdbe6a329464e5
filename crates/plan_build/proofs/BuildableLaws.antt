-- A plan that was read can be built.
use Rattle.std.proofs.{Common.rules as std_rules, Common.◌≡◌, Common.true, Common.◌&&◌, Common.List, Common.◌++◌, lemmas.Bool.and_from as both}
use Rattle.wit_model.specs.{Text.Text, Names.is_label, Names.is_identity, Rules.passes, Rules.are_distinct}
use Rattle.plan_meaning.specs.{Plan.PlannedPackage, Plan.PlannedInterface, PlanRules.names_of, PlanRules.members_differ, PlanRules.interface_labels}
use Rattle.plan_build.specs.Buildable.{PlansAreBuildable, has_version, package_differs, interface_differs}
use Rattle.base_lemmas.proofs.{Bools.right_of as second_true, Elements.all_weaker}
use Rattle.plan_meaning.proofs.{DistinctKeys.back_distinct, ListedTypes.distinct_front as front_distinct}

parts_distinct : (xs ys : List Text) → are_distinct (xs ++ ys) ≡ true → (are_distinct xs && are_distinct ys) ≡ true
parts_distinct xs ys h = both (are_distinct xs) (are_distinct ys) (front_distinct xs ys h) (back_distinct xs ys h)

version_is : (k : PlannedPackage) → is_identity k.identity ≡ true → has_version k ≡ true
version_is k h = search (std_rules, second_true)

package_apart : (k : PlannedPackage) → members_differ k ≡ true → package_differs k ≡ true
package_apart k h = parts_distinct (names_of k.interfaces) (names_of k.worlds) h

interface_apart : (i : PlannedInterface) → interface_labels i ≡ true → interface_differs i ≡ true
interface_apart i h = parts_distinct (names_of i.types) (names_of i.functions) (second_true (passes is_label i.name) (are_distinct (names_of i.types ++ names_of i.functions)) h)

pub plans_are_buildable : PlansAreBuildable
plans_are_buildable p is = search (std_rules, all_weaker, version_is, package_apart, interface_apart)
