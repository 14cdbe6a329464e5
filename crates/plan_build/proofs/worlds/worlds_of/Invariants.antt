use Rattle.std.proofs.Common.{◌≡◌, true, map, take}
use Rattle.std.specs.List.{list_all}
use Rattle.plan_meaning.specs.Built.{is_bare_world, planned_world}
use Rattle.plan_build.specs.{Buildable.world_differs, PlanOf.stated_world}
use Rattle.plan_build.proofs.worlds.worlds_of.Given as goal

abbrev pub invariant-loop-world : goal.invariant-loop-world
invariant-loop-world l = record {
  built : list_all world_differs (map stated_world l.worlds) ≡ true → map planned_world l.built.items ≡ map stated_world (take l.world-index l.worlds);
  bare : list_all world_differs (map stated_world l.worlds) ≡ true → list_all is_bare_world l.built.items ≡ true;
}
