use Rattle.std.proofs.Common.{arith}
use Rattle.witc_texts.proofs.BindingsLaws.{few-packages, one-more}
use Rattle.witc_texts.proofs.modules.other_packages.Goals as goal

pub overflow_cast-number : goal.overflow_cast-number
overflow_cast-number c = let few = few-packages c.args.resolve.now c.requires.valid in omega (arith, few)

pub loop-number-preserved : goal.loop-number-preserved
loop-number-preserved c =
    let before = c.loop-number.invariant in
    record { some = omega arith; so_far = one-more c.loop-number.number c.loop-number.others.items c.push.new.self.items before.some before.so_far c.in_ok-push.ensures.items }
