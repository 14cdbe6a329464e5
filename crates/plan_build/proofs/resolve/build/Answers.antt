use Rattle.std.proofs.Common.{rules}
use Rattle.plan_meaning.proofs.{PackageMeans.package_means, Valid.built_is_valid, WorldAlone.world_means}
use Rattle.plan_build.specs.PlanOf.{stated_plan}
use Rattle.plan_build.proofs.BuildableLaws.{plans_are_buildable}
use Rattle.plan_build.proofs.resolve.build.Goals as goal

pub returns-clause-built : goal.returns-clause-built
returns-clause-built c = search rules

pub returns-clause-valid : goal.returns-clause-valid
returns-clause-valid c = λ is. built_is_valid (stated_plan c.args.plan.now) _ is (returns-clause-built c (plans_are_buildable (stated_plan c.args.plan.now) is))

pub returns-clause-meant : goal.returns-clause-meant
returns-clause-meant c =
    let p = stated_plan c.args.plan.now in
    record {
      package_ = λ is. package_means p _ is (returns-clause-built c (plans_are_buildable p is.plan));
      world = λ is. world_means p _ is (returns-clause-built c (plans_are_buildable p is.plan));
    }
