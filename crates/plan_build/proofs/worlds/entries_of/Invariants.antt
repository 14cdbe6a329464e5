use Rattle.std.proofs.Common.{◌≡◌, true, map, take}
use Rattle.std.specs.List.{list_all}
use Rattle.indexmap.specs.IndexMap.{values}
use Rattle.plan_meaning.specs.{PlanRules.keys_differ, Built.is_bare_item, Built.planned_entries}
use Rattle.plan_build.specs.PlanOf.{stated_entry}
use Rattle.plan_build.proofs.worlds.entries_of.Given as goal

abbrev pub invariant-loop-entry : goal.invariant-loop-entry
invariant-loop-entry l = record {
  built : keys_differ (map stated_entry l.entries) ≡ true → planned_entries l.built.entries ≡ map stated_entry (take l.entry-index l.entries);
  bare : keys_differ (map stated_entry l.entries) ≡ true → list_all is_bare_item (values l.built) ≡ true;
}
