use Rattle.std.proofs.Common.{ap, map, ◌++◌, ◌∙◌}
use Rattle.std.specs.List.{flat_map}
use Rattle.read_exports.specs.Members.{numbered_member, numbered_part}
use Rattle.read_rules.proofs.SightLaws.{all_added, one_added}
use Rattle.read_rules.specs.Sights.{numbered_sight}
use Rattle.plan_package.specs.Views.{views_of_part}
use Rattle.plan_package.proofs.views.views_of_members.Goals as goal
use Rattle.base_lemmas.proofs.Lists.{flat_mapped as along_map}

pub loop-member-init : goal.loop-member-init
loop-member-init c = ap (λ l. map numbered_sight l ++ flat_map (λ m. views_of_part (numbered_part m.part)) c.args.members.now) c.new-views.ensures.items
    ∙ along_map (λ m. views_of_part m.part) numbered_member c.args.members.now

pub loop-member-preserved : goal.loop-member-preserved
loop-member-preserved c = one_added (λ m. views_of_part (numbered_part m.part)) c.args.members.now c.loop-member.member-index (map numbered_sight c.loop-member.views.items) c.loop-member.invariant _
    c.loop-member-test.true (map numbered_sight c.add_part.new.views.items) c.in_ok-add_part.ensures

pub returns : goal.returns
returns c = all_added (λ m. views_of_part (numbered_part m.part)) c.args.members.now c.loop-member.member-index (map numbered_sight c.loop-member.views.items) c.loop-member.invariant
    c.loop-member-test.false
