use Rattle.std.proofs.Common.{◌∙◌, ◌≤◌, arith, subst}
use Rattle.plan_build.specs.PlanOf.{stated_package}
use Rattle.plan_package.specs.WholePackages.{listed_at, PlansPackage}
use Rattle.plan_package.proofs.PackageLaws.{one_planned}
use Rattle.plan_package.proofs.packages.all_packages.Goals as goal

pub loop-number-preserved : goal.loop-number-preserved
loop-number-preserved c =
    let itself : c.loop-number.number ≤ c.loop-number.number = omega arith in
    record {
      many = c.take_list-interfaces.auto.lists ∙ c.loop-number.invariant.many;
      left = λ q h. c.take_list-interfaces.ensures.others q (omega (arith, h)) ∙ c.loop-number.invariant.left q (omega (arith, h));
      planned = one_planned c.args.packages.now c.args.main c.args.places.now.keys c.args.members.now (listed_at c.args.lists.now) c.loop-number.number c.loop-number.all.items c.push.new.self.items
          c.in_ok-package_at.field-0 c.in_ok-push.ensures.items (subst (λ es. PlansPackage c.args.packages.now c.args.main c.args.places.now.keys c.args.members.now es c.loop-number.number
          (stated_package c.in_ok-package_at.field-0)) (c.take_list-interfaces.ensures.list ∙ c.loop-number.invariant.left c.loop-number.number itself) c.in_ok-package_at.ensures)
          c.loop-number.invariant.planned;
    }
