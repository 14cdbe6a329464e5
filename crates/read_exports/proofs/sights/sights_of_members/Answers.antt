use Rattle.std.proofs.Common.{ap, map, ◌++◌, ◌∙◌}
use Rattle.std.specs.List.{flat_map}
use Rattle.plan_meaning.specs.NumberedMembers.{sights_of_part}
use Rattle.read_rules.specs.{Sights.numbered_sight, Tables.numbered_tables}
use Rattle.read_rules.proofs.SightLaws.{all_added, one_added}
use Rattle.read_exports.specs.Members.{numbered_member, numbered_part}
use Rattle.base_lemmas.proofs.Lists.{flat_mapped as along_map}
use Rattle.read_exports.proofs.sights.sights_of_members.Goals as goal

pub loop-member-init : goal.loop-member-init
loop-member-init c = ap (λ l. map numbered_sight l ++ flat_map (λ m. sights_of_part (numbered_tables c.args.tables.now) (numbered_part m.part)) c.args.members.now) c.new-sights.ensures.items
    ∙ along_map (λ m. sights_of_part (numbered_tables c.args.tables.now) m.part) numbered_member c.args.members.now

pub loop-member-preserved : goal.loop-member-preserved
loop-member-preserved c = one_added (λ m. sights_of_part (numbered_tables c.args.tables.now) (numbered_part m.part)) c.args.members.now c.loop-member.member-index
    (map numbered_sight c.loop-member.sights.items) c.loop-member.invariant _ c.loop-member-test.true (map numbered_sight c.add_part.new.sights.items) c.in_ok-add_part.ensures

pub returns : goal.returns
returns c = all_added (λ m. sights_of_part (numbered_tables c.args.tables.now) (numbered_part m.part)) c.args.members.now c.loop-member.member-index (map numbered_sight c.loop-member.sights.items)
    c.loop-member.invariant c.loop-member-test.false
