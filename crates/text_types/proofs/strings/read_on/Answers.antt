use Rattle.std.proofs.Common.{sym, ◌∙◌}
use Rattle.text_types.proofs.Quotes.{on_dead, on_reads, chars_pushed}
use Rattle.text_types.proofs.strings.read_on.Goals as goal

pub returns-then-is_dead : goal.returns-then-is_dead
returns-then-is_dead c = record { reads = on_dead _ _ _ c.quote_step.ensures c.in-Goes.is (sym c.is_dead.ensures ∙ c.if-is_dead.true) }

pub returns-in_ok-push-in-Reads : goal.returns-in_ok-push-in-Reads
returns-in_ok-push-in-Reads c = record {
  reads = on_reads _ _ _ c.quote_step.ensures _ c.in-Reads.is
      (chars_pushed c.args.characters.now c.push.new.self c.in-Reads.character c.in_ok-push-in-Reads.ensures.bytes);
}
