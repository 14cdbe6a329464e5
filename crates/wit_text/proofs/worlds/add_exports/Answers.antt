use Rattle.text_trees.specs.TreesSeen.{world_member_of}
use Rattle.text_types.proofs.Growth.{grows_join, grows_none, placed}
use Rattle.text_shown.specs.ShowsWorlds.{export_of}
use Rattle.wit_text.specs.Sides.{text_of_world}
use Rattle.wit_text.proofs.SideLaws.{continues_none, given_on, inline_join, inline_none}
use Rattle.wit_text.proofs.StageLaws.{among_at, is_at, past_end, side_all, side_step}
use Rattle.wit_text.proofs.worlds.add_exports.Goals as goal

pub loop-member-init : goal.loop-member-init
loop-member-init c = record { grows = grows_none _; keeps = inline_none _; adds = continues_none }

pub add_export-requires-clause-given : goal.add_export-requires-clause-given
add_export-requires-clause-given c = given_on c.loop-member.invariant.keeps c.requires.given

pub add_export-requires-clause-among : goal.add_export-requires-clause-among
add_export-requires-clause-among c =
    let members = c.args.given.now.world.now.members.now.items in
    among_at export_of (world_member_of (text_of_world c.args.given.now)) members c.loop-member.member-index c.member-item.result
    (is_at members c.deref-member-items.result.now c.loop-member.member-index c.member-item.result c.deref-member-items.ensures.value c.loop-member-test.true
    c.member-item.is)

pub loop-member-preserved : goal.loop-member-preserved
loop-member-preserved c =
    let members = c.args.given.now.world.now.members.now.items in
    let at = is_at members c.deref-member-items.result.now c.loop-member.member-index c.member-item.result c.deref-member-items.ensures.value
    c.loop-member-test.true c.member-item.is in
    record {
      grows = grows_join c.loop-member.invariant.grows c.in_ok-add_export.ensures.grows;
      keeps = inline_join c.loop-member.invariant.keeps c.in_ok-add_export.ensures.keeps;
      adds =
          side_step export_of (world_member_of (text_of_world c.args.given.now)) members c.loop-member.member-index c.member-item.result at
          c.loop-member.invariant.adds c.in_ok-add_export.ensures.adds;
    }

pub returns-clause-adds : goal.returns-clause-adds
returns-clause-adds c =
    let members = c.args.given.now.world.now.members.now.items in
    side_all export_of (world_member_of (text_of_world c.args.given.now)) members c.loop-member.member-index
    (past_end members c.deref-member-items.result.now c.loop-member.member-index c.deref-member-items.ensures.value c.loop-member-test.false)
    c.loop-member.invariant.adds

pub add_export-requires-clause-placed : goal.add_export-requires-clause-placed
add_export-requires-clause-placed c = placed c.loop-member.invariant.grows c.requires.placed
