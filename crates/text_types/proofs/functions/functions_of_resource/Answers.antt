use Rattle.text_types.proofs.{Growth.placed, Growth.grows_none, Growth.grows_join, EachLaws.each_none, EachLaws.each_more, FunctionLaws.member_stays}
use Rattle.text_types.proofs.functions.functions_of_resource.Goals as goal

pub function_of_resource-requires : goal.function_of_resource-requires
function_of_resource-requires c = placed c.loop-member.invariant.grows c.requires

pub loop-member-preserved : goal.loop-member-preserved
loop-member-preserved c = record {
  grows = grows_join c.loop-member.invariant.grows c.in_ok-function.ensures.grows;
  each = each_more c.args.members.now c.loop-member.member-index c.member-item.result (λ tree callable k. member_stays
      c.in_ok-function.ensures.grows.defs k) c.loop-member.invariant.each
      c.loop-member-test.true c.member-item.is c.in_ok-function.ensures.stands c.in_ok-push.ensures.items;
}

pub loop-member-init : goal.loop-member-init
loop-member-init c = record { grows = grows_none _; each = each_none c.in_ok-functions.ensures.items }
