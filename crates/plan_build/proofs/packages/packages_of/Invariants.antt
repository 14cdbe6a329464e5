use Rattle.std.proofs.Common.{◌≡◌, true, map, take}
use Rattle.std.specs.List.{list_all}
use Rattle.wit_model.specs.{Names.is_version, Rules.passes}
use Rattle.plan_meaning.specs.Built.{is_undocumented, planned_package}
use Rattle.plan_build.specs.{Buildable.package_differs, PlanOf.stated_package}
use Rattle.plan_build.proofs.packages.packages_of.Given as goal

abbrev pub invariant-loop-entry : goal.invariant-loop-entry
invariant-loop-entry l = record {
  built : list_all package_differs (map stated_package l.packages) ≡ true → map planned_package l.built.items ≡ map stated_package (take l.entry-index l.packages);
  versions : list_all (λ p. passes is_version p.name.version) l.built.items ≡ true;
  bare : list_all (λ p. is_undocumented p.docs) l.built.items ≡ true;
}
