use Rattle.std.proofs.Common.{ap}
use Rattle.text_types.specs.declared.texts.Text.{Text}
use Rattle.text_types.proofs.Growth.{grows_join, grows_none, placed}
use Rattle.text_types.specs.Scopes.{text_in}
use Rattle.wit_text.specs.Sides.{text_of_world}
use Rattle.wit_text.proofs.StageLaws.{calls_all, calls_none, calls_step, is_at, past_end}
use Rattle.wit_text.proofs.worlds.add_all_functions.Goals as goal

pub loop-member-init : goal.loop-member-init
loop-member-init c = record { grows = grows_none _; adds = calls_none }

pub add_functions-requires : goal.add_functions-requires
add_functions-requires c = placed c.loop-member.invariant.grows c.requires.placed

pub loop-member-preserved : goal.loop-member-preserved
loop-member-preserved c =
    let members = c.args.given.now.world.now.members.now.items in
    let at = is_at members c.deref-member-items.result.now c.loop-member.member-index c.member-item.result c.deref-member-items.ensures.value
    c.loop-member-test.true c.member-item.is in
    record {
      grows = grows_join c.loop-member.invariant.grows c.in_ok-add_functions.ensures.grows;
      adds =
          calls_step (text_of_world c.args.given.now) members c.loop-member.member-index (text_in c.args.scope.now) c.member-item.result
          (ap (λ (t : Text). t.text.now) c.requires.text) at c.in_ok-add_functions.ensures.grows.defs c.loop-member.invariant.adds
          c.in_ok-add_functions.ensures.adds;
    }

pub returns-clause-adds : goal.returns-clause-adds
returns-clause-adds c =
    let members = c.args.given.now.world.now.members.now.items in
    calls_all (text_of_world c.args.given.now) members c.loop-member.member-index
    (past_end members c.deref-member-items.result.now c.loop-member.member-index c.deref-member-items.ensures.value c.loop-member-test.false)
    c.loop-member.invariant.adds
