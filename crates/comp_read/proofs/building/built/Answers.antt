use Rattle.std.proofs.Common.{refl}
use Rattle.plan_build.specs.PlanOf.{stated_plan}
use Rattle.comp_read.proofs.building.built.Goals as goal

pub refusal_of-requires : goal.refusal_of-requires
refusal_of-requires c = c.in-Err.ensures.memory (c.requires.buildable (stated_plan c.in_ok-plan.plan) c.in_ok-plan.ensures.planned c.in_ok-plan.ensures.fits).versions

pub returns-in-Ok-clause-built : goal.returns-in-Ok-clause-built
returns-in-Ok-clause-built c =
    let is = c.in-Ok.ensures in
    record {
      plan = stated_plan c.in_ok-plan.plan;
      planned = c.in_ok-plan.ensures.planned;
      fits = c.in_ok-plan.ensures.fits;
      main_is = refl;
      built = is.built;
      valid = is.valid;
      meant = is.meant;
    }
