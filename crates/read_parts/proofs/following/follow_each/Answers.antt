use Rattle.std.proofs.Common.{length, map, refl, subst, List}
use Rattle.wit_model.specs.Text.{Text}
use Rattle.comp_bytes.specs.Levels.{PartType}
use Rattle.comp_meaning.specs.Follow.{each}
use Rattle.read_follow.proofs.SectionLaws.{alike}
use Rattle.read_parts.specs.{Exported.raw_exported, Followed.labelled_scope, Members.AreFollowedTo, Members.AreNumberedTo}
use Rattle.read_parts.proofs.MemberLaws.{none_followed, one_absent, one_followed}
use Rattle.read_parts.proofs.NumberedLaws.{none_left, none_numbered, one_numbered}
use Rattle.read_parts.proofs.following.follow_each.Goals as goal

pub loop-exported-init : goal.loop-exported-init
loop-exported-init c = (
  none_followed (map raw_exported c.args.parts.now) c.args.table.now c.args.functions.now c.args.places.now c.new-members.result.items c.requires.empty c.requires.nowhere (search) c.requires.tables,
  none_numbered (map raw_exported c.args.parts.now) c.args.table.now c.args.functions.now c.args.places.now c.new-members.result.items c.requires.empty (search),
)

pub returns-in-Err-clause-absent : goal.returns-in-Err-clause-absent
returns-in-Err-clause-absent c = alike c.in-Err.refusal c.in_front.result (each labelled_scope (map raw_exported c.args.parts.now)) c.in_front.ensures
    (one_absent (length c.args.table.now) c.args.parts.now c.loop-exported.exported-index c.loop-exported.table c.loop-exported.functions c.loop-exported.places c.loop-exported.members.items
    c.loop-exported.invariant.0 _ c.loop-exported-test.true c.in-Err.refusal c.in-Err.ensures.absent)

pub loop-exported-preserved : goal.loop-exported-preserved
loop-exported-preserved c = (
  one_followed (length c.args.table.now) c.args.parts.now c.loop-exported.exported-index c.loop-exported.table c.loop-exported.functions c.loop-exported.places c.loop-exported.members.items
      c.loop-exported.invariant.0
      _ c.loop-exported-test.true c.follow_part.new.table c.follow_part.new.functions c.follow_part.new.places _ c.push.new.self.items c.in_ok-push-in-Ok.ensures.items refl c.in-Ok.ensures.followed,
  one_numbered c.args.parts.now c.loop-exported.exported-index c.loop-exported.table c.loop-exported.functions c.loop-exported.places c.loop-exported.members.items c.loop-exported.invariant.1 _
      c.loop-exported-test.true c.follow_part.new.table c.follow_part.new.functions c.follow_part.new.places _ c.push.new.self.items c.in_ok-push-in-Ok.ensures.items c.in-Ok.ensures.followed,
)

pub returns-clause-followed : goal.returns-clause-followed
returns-clause-followed c = subst (λ (ys : List (Text × PartType)). AreFollowedTo (length c.args.table.now) (map raw_exported c.args.parts.now) ys c.loop-exported.table c.loop-exported.functions
    c.loop-exported.places c.loop-exported.members.items) (none_left c.args.parts.now c.loop-exported.exported-index c.loop-exported-test.false) c.loop-exported.invariant.0

pub returns-clause-numbered : goal.returns-clause-numbered
returns-clause-numbered c = subst (λ (ys : List (Text × PartType)). AreNumberedTo (map raw_exported c.args.parts.now) ys c.loop-exported.table c.loop-exported.functions c.loop-exported.places
    c.loop-exported.members.items) (none_left c.args.parts.now c.loop-exported.exported-index c.loop-exported-test.false) c.loop-exported.invariant.1
