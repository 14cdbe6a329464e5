use Rattle.std.proofs.Common.{◌≡◌, true, map, take}
use Rattle.std.specs.List.{list_all}
use Rattle.plan_meaning.specs.Built.{is_bare_interface, planned_interface}
use Rattle.plan_build.specs.{Buildable.interface_differs, PlanOf.stated_interface}
use Rattle.plan_build.proofs.interfaces.interfaces_of.Given as goal

abbrev pub invariant-loop-interface : goal.invariant-loop-interface
invariant-loop-interface l = record {
  built : list_all interface_differs (map stated_interface l.interfaces) ≡ true → map planned_interface l.built.items ≡ map stated_interface (take l.interface-index l.interfaces);
  bare : list_all interface_differs (map stated_interface l.interfaces) ≡ true → list_all is_bare_interface l.built.items ≡ true;
}
