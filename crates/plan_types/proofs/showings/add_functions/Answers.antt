use Rattle.std.proofs.Common.{refl}
use Rattle.read_rules.specs.Views.{numbered_function}
use Rattle.read_exports.proofs.WalkLaws.{all_mapped, one_pushed}
use Rattle.plan_types.proofs.showings.add_functions.Goals as goal

pub loop-function-preserved : goal.loop-function-preserved
loop-function-preserved c = one_pushed numbered_function (λ f. f.1.signature) c.args.functions.now c.loop-function.function-index c.loop-function.all.items c.loop-function.invariant _
    c.loop-function-test.true c.push.new.self.items _ refl c.in_ok-push.ensures.items

pub returns : goal.returns
returns c = all_mapped numbered_function (λ f. f.1.signature) c.args.functions.now c.loop-function.function-index c.loop-function.all.items c.loop-function.invariant c.loop-function-test.false
