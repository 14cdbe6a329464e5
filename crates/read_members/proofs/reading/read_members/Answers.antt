use Rattle.std.proofs.Common.{subst, map}
use Rattle.read_parts.specs.declared.members.Member.{Member as FollowedMember}
use Rattle.read_homes.proofs.PackageLaws.{grows_on}
use Rattle.read_homes.specs.Homes.{given_home}
use Rattle.read_exports.specs.Members.{homes_alone, homes_in}
use Rattle.read_rules.specs.Tables.{known_in, numbered_tables}
use Rattle.read_members.specs.Layers.{shown_of_member, shown_owned}
use Rattle.read_members.specs.ReadMembers.{read_member, IsMemberRead, IsNoMember, IsOneNone}
use Rattle.read_members.proofs.ReadLaws.{alike_at, at_index, because, more_for, one_more}
use Rattle.read_members.proofs.reading.read_members.Goals as goal

pub read_one-requires : goal.read_one-requires
read_one-requires c = alike_at shown_owned (shown_of_member (numbered_tables c.args.tables.now).paths) c.args.scopes.now c.args.members.now c.requires c.loop-number.number _
    c.index-scopes-number.result _ c.index-members-number.result c.loop-number-test.true c.index-scopes-number.is c.index-members-number.is

pub returns-in-Err-clause-absent : goal.returns-in-Err-clause-absent
returns-in-Err-clause-absent c =
    let t = numbered_tables c.args.tables.now in
    let known = known_in c.args.tables.now in
    let homes = homes_alone c.args.homes.now in
    let member = c.index-members-number.result in
    because c.in-Err.refusal (IsNoMember t known homes member) (IsOneNone t known homes c.args.members.now)
    (λ none. record { number = c.loop-number.number; member = member; at = at_index c.args.members.now c.loop-number.number _ member c.loop-number-test.true c.index-members-number.is; none = none })
    c.in-Err.ensures.absent

pub loop-number-preserved : goal.loop-number-preserved
loop-number-preserved c =
    let t = numbered_tables c.args.tables.now in
    let known = known_in c.args.tables.now in
    let first = c.args.packages.now in
    let old = c.loop-number.packages in
    let new = c.read_one.new.packages in
    let before = c.loop-number.invariant in
    let is = c.in-Ok.ensures in
    record {
      read = one_more t known (map given_home c.args.homes.now) old new is.grows c.args.members.now c.loop-number.number _ c.loop-number-test.true c.loop-number.all.items c.in-Ok.read
          c.push.new.self.items c.in_ok-push-in-Ok.ensures.items before.read
          (subst (λ (x : FollowedMember). IsMemberRead t known (homes_in new c.args.homes.now) x (read_member c.in-Ok.read)) c.index-members-number.is is.read);
      grows = grows_on first old new before.grows is.grows;
      packages = is.packages;
      reasons = more_for first old new c.loop-number.all.items c.in-Ok.read c.push.new.self.items c.in_ok-push-in-Ok.ensures.items before.reasons is.reason;
      keeps = λ u homes stand. is.homes u homes (before.keeps u homes stand);
    }
