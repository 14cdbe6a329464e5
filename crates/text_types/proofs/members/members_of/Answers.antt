use Rattle.std.proofs.Common.{◌≡◌, take}
use Rattle.std.proofs.lemmas.List.{take_all}
use Rattle.wit_model.specs.Text.{Text}
use Rattle.text_types.specs.{Kept.defs_of, Scopes.made_under, Scopes.text_in}
use Rattle.text_types.proofs.{Growth.placed, Growth.grows_none, Growth.grows_join, EachLaws.each_none}
use Rattle.text_types.proofs.MembersMade.{functions_more, members_made}
use Rattle.text_types.proofs.members.members_of.Goals as goal

pub loop-member-init : goal.loop-member-init
loop-member-init c = record { grows = grows_none _; each = each_none c.new-functions.ensures.empty }

pub add_functions-requires : goal.add_functions-requires
add_functions-requires c = placed c.loop-member.invariant.grows c.in_ok-own.ensures.placed.placed

pub loop-member-preserved : goal.loop-member-preserved
loop-member-preserved c =
    let h = c.loop-member.invariant in
    let made = λ (name : Text). made_under c.make_all.new.self name in
    record {
      grows = grows_join h.grows c.in_ok-add_functions.ensures.grows;
      each = functions_more made (text_in c.make_all.new.self) c.args.members.now c.loop-member.member-index c.member-item.result c.loop-member.functions
          c.add_functions.new.functions c.in_ok-add_functions.ensures.grows.defs h.each c.in_ok-add_functions.ensures.adds c.loop-member-test.true
          c.member-item.is;
    }

pub returns-in_err-add_functions-clause-grows : goal.returns-in_err-add_functions-clause-grows
returns-in_err-add_functions-clause-grows c =
    grows_join c.in_ok-own.ensures.grows (grows_join c.loop-member.invariant.grows c.in_err-add_functions.ensures.grows)

pub returns-clause-made : goal.returns-clause-made
returns-clause-made c =
    let h = c.loop-member.invariant in
    let own = c.in_ok-own.ensures in
    let end : take c.loop-member.member-index c.args.members.now ≡ c.args.members.now = take_all _ _ c.loop-member-test.false in
    members_made (defs_of c.loop-member.types) c.args.scope.now c.add_types.new.scope c.make_all.new.self c.args.members.now c.in_ok-own.own
    c.loop-member.functions h.grows.defs c.requires.empty c.in_ok-add_types.ensures.adds own.made own.placed.text own.agrees (rw end at h.each)
