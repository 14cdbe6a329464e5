use Rattle.std.proofs.Common.{◌∙◌, ap, ◌++◌, refl}
use Rattle.read_exports.specs.Members.{homes_alone}
use Rattle.plan_meaning.specs.NumberedMembers.{home_at}
use Rattle.plan_package.specs.WholePackages.{entries_from}
use Rattle.plan_package.proofs.PackageLaws.{all_listed, one_listed}
use Rattle.plan_package.proofs.packages.list_interfaces.Goals as goal

pub loop-number-init : goal.loop-number-init
loop-number-init c = record { many = refl; listed = λ q h. ap (λ l. l ++ entries_from (home_at (homes_alone c.args.homes.now)) q 0 c.args.places.now) (c.requires q) }

pub loop-number-preserved : goal.loop-number-preserved
loop-number-preserved c = record {
  many = c.in_ok-list_interface.ensures.many ∙ c.loop-number.invariant.many;
  listed = one_listed (home_at (homes_alone c.args.homes.now)) c.args.places.now c.loop-number.number c.loop-number.table c.loop-number.invariant.listed _ c.loop-number-test.true
      c.list_interface.new.table _ c.home_of.ensures c.in_ok-list_interface.ensures;
}

pub returns-clause-listed : goal.returns-clause-listed
returns-clause-listed c = all_listed (home_at (homes_alone c.args.homes.now)) c.args.places.now c.loop-number.number c.loop-number.table c.loop-number.invariant.listed c.loop-number-test.false
