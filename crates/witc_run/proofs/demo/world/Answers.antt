use Rattle.std.proofs.Common.{refl}
use Rattle.witc_run.proofs.DemoLaws.{foo-world}
use Rattle.witc_run.proofs.demo.world.Goals as goal

pub returns : goal.returns
returns c = foo-world _ c.in_ok-one_function.ensures c.in_ok-one_function-2.ensures refl
