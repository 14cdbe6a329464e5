use Rattle.text_trees.specs.TreesSeen.{world_member_of}
use Rattle.text_types.proofs.Growth.{grows_join, grows_none}
use Rattle.text_shown.specs.ShowsWorlds.{import_of}
use Rattle.wit_text.specs.Sides.{text_of_world}
use Rattle.wit_text.proofs.SideLaws.{continues_none, given_on, inline_join, inline_none}
use Rattle.wit_text.proofs.StageLaws.{among_at, is_at, past_end, side_all, side_step}
use Rattle.wit_text.proofs.worlds.add_imports.Goals as goal

pub loop-member-init : goal.loop-member-init
loop-member-init c = record { grows = grows_none _; keeps = inline_none _; adds = continues_none }

pub add_import-requires-clause-given : goal.add_import-requires-clause-given
add_import-requires-clause-given c = given_on c.loop-member.invariant.keeps c.requires

pub add_import-requires-clause-among : goal.add_import-requires-clause-among
add_import-requires-clause-among c =
    let members = c.args.given.now.world.now.members.now.items in
    among_at import_of (world_member_of (text_of_world c.args.given.now)) members c.loop-member.member-index c.member-item.result
    (is_at members c.deref-member-items.result.now c.loop-member.member-index c.member-item.result c.deref-member-items.ensures.value c.loop-member-test.true
    c.member-item.is)

pub loop-member-preserved : goal.loop-member-preserved
loop-member-preserved c =
    let members = c.args.given.now.world.now.members.now.items in
    let at = is_at members c.deref-member-items.result.now c.loop-member.member-index c.member-item.result c.deref-member-items.ensures.value
    c.loop-member-test.true c.member-item.is in
    record {
      grows = grows_join c.loop-member.invariant.grows c.in_ok-add_import.ensures.grows;
      keeps = inline_join c.loop-member.invariant.keeps c.in_ok-add_import.ensures.keeps;
      adds =
          side_step import_of (world_member_of (text_of_world c.args.given.now)) members c.loop-member.member-index c.member-item.result at
          c.loop-member.invariant.adds c.in_ok-add_import.ensures.adds;
    }

pub returns-clause-adds : goal.returns-clause-adds
returns-clause-adds c =
    let members = c.args.given.now.world.now.members.now.items in
    side_all import_of (world_member_of (text_of_world c.args.given.now)) members c.loop-member.member-index
    (past_end members c.deref-member-items.result.now c.loop-member.member-index c.deref-member-items.ensures.value c.loop-member-test.false)
    c.loop-member.invariant.adds
