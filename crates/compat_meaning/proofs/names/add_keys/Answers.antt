use Rattle.compat_meaning.proofs.Ranges.{next_in_range}
use Rattle.compat_meaning.proofs.names.add_keys.Goals as goal

pub key_text-requires-clause-in_range : goal.key_text-requires-clause-in_range
key_text-requires-clause-in_range c = (next_in_range c.args.resolve.now c.loop-key.key-iterator c.next.new.self c.next.result (c.in-Some.key, c.in-Some._item) c.in-Some.is
    c.next.ensures.steps c.loop-key.invariant).0

pub loop-key-preserved : goal.loop-key-preserved
loop-key-preserved c = (next_in_range c.args.resolve.now c.loop-key.key-iterator c.next.new.self c.next.result (c.in-Some.key, c.in-Some._item) c.in-Some.is c.next.ensures.steps
    c.loop-key.invariant).2
