use Rattle.text_trees.specs.TreesSeen.{world_member_of}
use Rattle.text_shown.specs.ShowsWorlds.{export_of, import_of}
use Rattle.wit_text.proofs.FrontLaws.{adds_none}
use Rattle.wit_text.proofs.StageLaws.{fronts_all, fronts_step, is_at, past_end}
use Rattle.wit_text.proofs.externs.state_paths.Goals as goal

pub loop-member-init : goal.loop-member-init
loop-member-init c = record { imports = adds_none; exports = adds_none }

pub loop-member-preserved : goal.loop-member-preserved
loop-member-preserved c =
    let members = c.args.world.now.members.now.items in
    let g = world_member_of c.args.text.now.text.now in
    let at = is_at members c.deref-member-items.result.now c.loop-member.member-index c.member-item.result c.deref-member-items.ensures.value
    c.loop-member-test.true
    c.member-item.is in
    record {
      imports = fronts_step import_of g members c.loop-member.member-index c.member-item.result at c.loop-member.invariant.imports
          c.in_ok-state_member.ensures.import;
      exports = fronts_step export_of g members c.loop-member.member-index c.member-item.result at c.loop-member.invariant.exports
          c.in_ok-state_member.ensures.export;
    }

pub returns-clause-import : goal.returns-clause-import
returns-clause-import c =
    fronts_all import_of (world_member_of c.args.text.now.text.now) c.args.world.now.members.now.items c.loop-member.member-index
    (past_end c.args.world.now.members.now.items c.deref-member-items.result.now c.loop-member.member-index c.deref-member-items.ensures.value
    c.loop-member-test.false)
    c.loop-member.invariant.imports

pub returns-clause-export : goal.returns-clause-export
returns-clause-export c =
    fronts_all export_of (world_member_of c.args.text.now.text.now) c.args.world.now.members.now.items c.loop-member.member-index
    (past_end c.args.world.now.members.now.items c.deref-member-items.result.now c.loop-member.member-index c.deref-member-items.ensures.value
    c.loop-member-test.false)
    c.loop-member.invariant.exports
