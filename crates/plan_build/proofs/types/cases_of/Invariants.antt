use Rattle.std.proofs.Common.{◌≡◌, true, map, take}
use Rattle.std.specs.List.{list_all}
use Rattle.plan_meaning.specs.Built.{is_undocumented}
use Rattle.plan_build.specs.PlanOf.{marked_case, stated_case}
use Rattle.plan_build.proofs.types.cases_of.Given as goal

abbrev pub invariant-loop-case : goal.invariant-loop-case
invariant-loop-case l = record {
  names : map marked_case l.built.items ≡ map stated_case (take l.case-index l.cases);
  types : map (λ x. x.ty) l.built.items ≡ map (λ c. c.1) (take l.case-index l.cases);
  bare : list_all (λ x. is_undocumented x.docs) l.built.items ≡ true;
}
