use Rattle.std.proofs.Common.{◌∙◌, ap, arith}
use Rattle.witc_texts.proofs.BindingsLaws.{few-packages}
use Rattle.witc_written.proofs.HomeLaws.{another, that-one}
use Rattle.witc_written.proofs.homes.other_packages.Goals.{then-number-home+in_ok-push, else-number-home}
use Rattle.witc_written.proofs.homes.other_packages.Goals as goal

pub overflow_cast-number : goal.overflow_cast-number
overflow_cast-number c = let few = few-packages c.args.resolve.now c.requires.valid in omega (arith, few)

pub loop-number-preserved : goal.loop-number-preserved
loop-number-preserved c = elim c.if-number-home.branch [
  | then-number-home+in_ok-push w ↦ another c.args.home.0 c.loop-number.number c.loop-number.others.items c.if-number-home.others.items c.loop-number.invariant w.if-number-home.true
      (ap (λ v. v.items) w.others-is ∙ w.in_ok-push.ensures.items)
  | else-number-home w ↦
      that-one c.args.home.0 c.loop-number.number c.loop-number.others.items c.if-number-home.others.items c.loop-number.invariant w.if-number-home.false (ap (λ v. v.items) w.others-is)
]
