use Rattle.std.proofs.Common.{◌++◌, ap, map}
use Rattle.read_rules.proofs.SightLaws.{all_added, one_added}
use Rattle.plan_package.specs.WholePackages.{labelled_place, interface_in_part, interfaces_in}
use Rattle.plan_package.proofs.packages.interfaces_among.Goals as goal

pub loop-member-init : goal.loop-member-init
loop-member-init c = ap (λ l. map labelled_place l ++ interfaces_in c.args.members.now) c.new-interfaces.ensures.items

pub loop-member-preserved : goal.loop-member-preserved
loop-member-preserved c = one_added (λ m. interface_in_part m.label.now m.part) c.args.members.now c.loop-member.member-index (map labelled_place c.loop-member.interfaces.items)
    c.loop-member.invariant _ c.loop-member-test.true (map labelled_place c.add_interface.new.interfaces.items) c.in_ok-add_interface.ensures

pub returns : goal.returns
returns c = all_added (λ m. interface_in_part m.label.now m.part) c.args.members.now c.loop-member.member-index (map labelled_place c.loop-member.interfaces.items) c.loop-member.invariant
    c.loop-member-test.false
