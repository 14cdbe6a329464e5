use Rattle.std.proofs.Common.{◌∙◌, sym, map, length, ◌≤◌, rules}
use Rattle.wit_model.specs.Text.{text_eq}
use Rattle.wit_model.proofs.Distinct.{adds_distinct, new_turn, old_turn, last_turn}
use Rattle.check_rules.proofs.named.are_distinct.Goals as goal

pub returns-then-not-branch : goal.returns-then-not-branch
returns-then-not-branch g c =
    let f = g.T.Named.name_of in
    let names = map f c.args.members.now in
    sym (old_turn text_eq f (λ k. k.now) c.args.members.now c.loop-member.member-index c.member-item.result c.loop-member.seen.keys c.name.result c.in_ok-insert.field-0
    c.loop-member-test.true c.member-item.is c.name.ensures c.in_ok-insert.ensures.added c.if-not-branch.true) ∙ (c.loop-member.invariant ∙ adds_distinct names)

pub loop-member-preserved : goal.loop-member-preserved
loop-member-preserved g c = new_turn text_eq g.T.Named.name_of (λ k. k.now) c.args.members.now c.loop-member.member-index c.member-item.result c.loop-member.seen.keys c.name.result
    c.insert.new.self.keys c.in_ok-insert.field-0 _ c.loop-member-test.true c.member-item.is c.name.ensures c.in_ok-insert.ensures.added c.if-not-branch.false c.in_ok-insert.ensures.keys
    c.loop-member.invariant

pub returns : goal.returns
returns g c =
    let f = g.T.Named.name_of in
    let names = map f c.args.members.now in
    let past : length c.args.members.now ≤ c.loop-member.member-index = search rules in
    sym (last_turn text_eq f c.args.members.now c.loop-member.member-index (map (λ k. k.now) c.loop-member.seen.keys) past) ∙ (c.loop-member.invariant ∙ adds_distinct names)
