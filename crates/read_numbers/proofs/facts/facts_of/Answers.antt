use Rattle.read_numbers.proofs.FactNumbers.{facts_more, one_more}
use Rattle.read_numbers.proofs.facts.facts_of.Goals as goal

pub loop-number-preserved : goal.loop-number-preserved
loop-number-preserved c = record {
  many = one_more c.loop-number.facts.items c.push.new.self.items c.fact_at.result c.in_ok-push.ensures.items c.loop-number.number c.loop-number.invariant.many;
  tell = facts_more c.loop-number.facts.items c.push.new.self.items c.fact_at.result c.in_ok-push.ensures.items _ c.loop-number.number c.loop-number.invariant.many c.loop-number.invariant.tell
      c.fact_at.ensures;
}
