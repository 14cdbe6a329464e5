use Rattle.comp_meaning.specs.Follow.{instance_view}
use Rattle.read_follow.specs.{Bodies.held_declaration_at, Bodies.items_in, Declares.raw_declared, InstanceScopes.state_of, InstanceScopes.tables_of}
use Rattle.read_follow.specs.Following.{slots_at}
use Rattle.read_follow.proofs.StepLaws.{around_in, followed_all, followed_more, followed_none, not_unread, nothing_shown}
use Rattle.read_follow.proofs.SectionLaws.{alike}
use Rattle.read_follow.proofs.instances.follow_body.Goals as goal

pub loop-init : goal.loop-init
loop-init c = followed_none c.args.marks.now c.args.here (tables_of c.args.table.now c.args.functions.now) c.requires.tables c.args.outer.now c.requires.outer c.args.body
    c.new.result.items c.new-2.result.items c.new-3.result.items c.new.ensures.items c.new-2.ensures.items c.new-3.ensures.items c.requires.body

pub step-requires-clause-outer : goal.step-requires-clause-outer
step-requires-clause-outer c = around_in c.args.marks.now c.args.here (tables_of c.args.table.now c.args.functions.now) c.requires.tables c.args.outer.now c.requires.outer c.args.body
    c.loop.counter c.loop.rest.now (state_of c.loop.table c.loop.functions c.loop.scope) c.loop.invariant

pub returns-in-Err-step-clause-absent : goal.returns-in-Err-step-clause-absent
returns-in-Err-step-clause-absent c = λ place marked. alike c.in-Err-step.refusal c.seen_at.result
    (instance_view (place c.args.here) (slots_at place (tables_of c.args.table.now c.args.functions.now) c.args.outer.now) (items_in held_declaration_at c.args.body)) c.seen_at.ensures
    (nothing_shown c.args.marks.now c.args.here (tables_of c.args.table.now c.args.functions.now) c.requires.tables c.args.outer.now c.requires.outer c.args.body c.loop.counter c.loop.rest.now
    (state_of c.loop.table c.loop.functions c.loop.scope) c.loop.invariant c.loop-test.true (raw_declared c.in-Ok.declared) c.in-Ok.behind.now c.in-Ok.ensures c.in-Err-step.refusal
    c.in-Err-step.ensures.absent place marked)

pub returns-in-Err-clause-absent : goal.returns-in-Err-clause-absent
returns-in-Err-clause-absent c = not_unread c.args.marks.now c.args.here (tables_of c.args.table.now c.args.functions.now) c.requires.tables c.args.outer.now c.requires.outer c.args.body
    c.loop.counter c.loop.rest.now (state_of c.loop.table c.loop.functions c.loop.scope) c.loop.invariant c.loop-test.true c.in-Err.refusal c.in-Err.ensures

pub loop-preserved : goal.loop-preserved
loop-preserved c = followed_more c.args.marks.now c.args.here (tables_of c.args.table.now c.args.functions.now) c.requires.tables c.args.outer.now c.requires.outer c.args.body
    c.loop.counter c.loop.rest.now (state_of c.loop.table c.loop.functions c.loop.scope) c.loop.invariant c.loop-test.true (raw_declared c.in-Ok.declared) c.in-Ok.behind.now c.in-Ok.ensures
    (state_of c.step.new.table c.step.new.functions c.step.new.scope) c.in-Ok-step.ensures.followed

pub returns-clause-followed : goal.returns-clause-followed
returns-clause-followed c = followed_all c.args.marks.now c.args.here (tables_of c.args.table.now c.args.functions.now) c.requires.tables c.args.outer.now c.requires.outer c.args.body
    c.loop.counter c.loop.rest.now (state_of c.loop.table c.loop.functions c.loop.scope) c.loop.invariant c.loop.auto.counter-end c.loop-test.false
