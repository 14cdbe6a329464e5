use Rattle.std.proofs.Common.{◌++◌, ap, map}
use Rattle.read_rules.proofs.SightLaws.{all_added, one_added}
use Rattle.plan_package.specs.WholeWorlds.{labelled, world_in_part, worlds_in}
use Rattle.plan_package.proofs.worlds.worlds_among.Goals as goal

pub loop-member-init : goal.loop-member-init
loop-member-init c = ap (λ l. map labelled l ++ worlds_in c.args.members.now) c.new-worlds.ensures.items

pub loop-member-preserved : goal.loop-member-preserved
loop-member-preserved c = one_added (λ m. world_in_part m.label.now m.part) c.args.members.now c.loop-member.member-index (map labelled c.loop-member.worlds.items) c.loop-member.invariant _
    c.loop-member-test.true (map labelled c.add_world.new.worlds.items) c.in_ok-add_world.ensures

pub returns : goal.returns
returns c = all_added (λ m. world_in_part m.label.now m.part) c.args.members.now c.loop-member.member-index (map labelled c.loop-member.worlds.items) c.loop-member.invariant c.loop-member-test.false
