use Rattle.std.proofs.Common.{refl, arith}
use Rattle.plan_meaning.specs.Built.{part_of}
use Rattle.plan_parts.proofs.KindLaws.{label_next, part_next}
use Rattle.plan_parts.proofs.kinds.fields_of.Goals as goal

pub loop-number-preserved : goal.loop-number-preserved
loop-number-preserved c = record {
  names = label_next (λ f. f.0.now) c.args.labels.now c.loop-number.number _ c.loop-number.fields.items c.push.new.self.items _ c.loop-number-test.true c.in_ok-push.ensures.items refl
      c.loop-number.invariant.names;
  parts = part_next c.args.kept.now c.args.parts.now c.loop-number.number 0 (λ f. part_of f.1) c.loop-number.fields.items c.push.new.self.items _
      (omega (arith, c.requires.many, c.loop-number-test.true)) c.in_ok-push.ensures.items c.part_at.ensures c.loop-number.invariant.parts;
}
