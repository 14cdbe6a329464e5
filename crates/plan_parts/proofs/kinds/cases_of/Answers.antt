use Rattle.std.proofs.Common.{ap, ◌+◌}
use Rattle.plan_parts.proofs.KindLaws.{cases_are, no_payload, one_payload, payload_there}
use Rattle.plan_parts.proofs.kinds.cases_of.Goals.{then-label+in_ok-push, else-label+in_ok-push-2}
use Rattle.plan_parts.proofs.kinds.cases_of.Goals as goal

pub part_at-requires-clause-there : goal.part_at-requires-clause-there
part_at-requires-clause-there c = payload_there c.args.kept.now c.args.parts.now c.args.labels.now c.loop-label.label-index c.loop-label.next _ c.loop-label-test.true c.loop-label.cases.items
    c.loop-label.cases.items c.loop-label.invariant c.if-label.true

pub loop-label-preserved : goal.loop-label-preserved
loop-label-preserved c = elim c.if-label.branch [
  | then-label+in_ok-push w ↦ cases_are c.args.kept.now c.args.parts.now c.args.labels.now (c.loop-label.label-index + 1) (c.loop-label.next + 1) c.if-label.next w.push.new.self.items
      c.if-label.cases.items w.next-is (ap (λ v. v.items) w.cases-is) (one_payload c.args.kept.now c.args.parts.now c.args.labels.now c.loop-label.label-index c.loop-label.next _
      c.loop-label-test.true c.loop-label.cases.items w.push.new.self.items c.loop-label.invariant w.part_at.result w.if-label.true w.part_at.ensures w.in_ok-push.ensures.items)
  | else-label+in_ok-push-2 w ↦ cases_are c.args.kept.now c.args.parts.now c.args.labels.now (c.loop-label.label-index + 1) c.loop-label.next c.if-label.next w.push-else-label.new.self.items
      c.if-label.cases.items w.next-is (ap (λ v. v.items) w.cases-is) (no_payload c.args.kept.now c.args.parts.now c.args.labels.now c.loop-label.label-index c.loop-label.next _ c.loop-label-test.true
      c.loop-label.cases.items w.push-else-label.new.self.items c.loop-label.invariant w.if-label.false w.in_ok-push-2.ensures.items)
]
