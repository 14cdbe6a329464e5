use Rattle.std.proofs.Common.{◌≡◌, true}
use Rattle.wit_model.specs.Rules.{are_distinct}
use Rattle.plan_meaning.specs.PlanRules.{names_of}
use Rattle.plan_build.specs.{Buildable.package_differs, PlanOf.stated_package}
use Rattle.plan_build.specs.declared.plan.PlannedPackage.{PlannedPackage}
use Rattle.plan_build.proofs.Named.{numbers_stand}
use Rattle.base_lemmas.proofs.Bools.{left_of as first_true, right_of as second_true}
use Rattle.plan_build.proofs.packages.package_of.Goals as goal

interface_names : (k : PlannedPackage) → package_differs (stated_package k) ≡ true → are_distinct (names_of (stated_package k).interfaces) ≡ true
interface_names k h = first_true (are_distinct (names_of (stated_package k).interfaces)) (are_distinct (names_of (stated_package k).worlds)) h

world_names : (k : PlannedPackage) → package_differs (stated_package k) ≡ true → are_distinct (names_of (stated_package k).worlds) ≡ true
world_names k h = second_true (are_distinct (names_of (stated_package k).interfaces)) (are_distinct (names_of (stated_package k).worlds)) h

pub returns-clause-built : goal.returns-clause-built
returns-clause-built c = λ h.
    let k = c.args.entry.now in
    let interfaces = numbers_stand (λ id. id.0) c.in_ok-interfaces.interfaces.entries k.interfaces.items c.deref.result.now c.deref.ensures.value c.in_ok-interfaces.ensures (interface_names k h) in
    let worlds = numbers_stand (λ id. id.0) c.in_ok-worlds.worlds.entries k.worlds.items c.deref-2.result.now c.deref-2.ensures.value c.in_ok-worlds.ensures (world_names k h) in
    λ j. record { identity = c.in_ok-name.ensures.name j; interfaces = interfaces j; worlds = worlds j }
