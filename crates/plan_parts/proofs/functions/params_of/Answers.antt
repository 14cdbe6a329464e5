use Rattle.plan_parts.specs.Kept.{IsKeptPart}
use Rattle.plan_parts.proofs.FunctionLaws.{param_at, params_more}
use Rattle.plan_parts.proofs.functions.params_of.Goals as goal

pub part-requires : goal.part-requires
part-requires c = param_at (IsKeptPart c.args.kept.now) c.args.params.now c.loop-param.param-index _ c.loop-param-test.true c.requires

pub loop-param-preserved : goal.loop-param-preserved
loop-param-preserved c = params_more c.args.kept.now c.args.params.now c.loop-param.param-index _ c.part.result c.loop-param.planned.items c.push.new.self.items c.loop-param-test.true
    c.in_ok-push.ensures.items c.part.ensures c.loop-param.invariant
