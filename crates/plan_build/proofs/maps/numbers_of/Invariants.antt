use Rattle.std.proofs.Common.{◌≡◌, true, map, take}
use Rattle.wit_model.specs.Rules.{are_distinct}
use Rattle.plan_build.specs.PlanOf.{built_number, stated_number}
use Rattle.plan_build.proofs.maps.numbers_of.Given as goal

abbrev pub invariant-loop-entry : goal.invariant-loop-entry
invariant-loop-entry g l = are_distinct (map (λ e. e.0.now) l.entries) ≡ true → map built_number l.built.entries ≡ map stated_number (take l.entry-index l.entries)
