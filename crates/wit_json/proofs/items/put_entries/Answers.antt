use Rattle.std.specs.Map.Iter.{deref_pair}
use Rattle.std.proofs.lemmas.Map.Iter.{rest_more}
use Rattle.wit_json.specs.Listed.{entry_tokens}
use Rattle.wit_json.proofs.Adding.{lists_more}
use Rattle.wit_json.proofs.items.put_entries.Goals as goal

pub loop-key-preserved : goal.loop-key-preserved
loop-key-preserved c = lists_more (entry_tokens c.args.resolve.now) _ c.loop-key.key-iterator c.next.new.self (c.in-Some.key.now, c.in-Some.item.now) c.loop-key.invariant
    (rest_more deref_pair c.loop-key.key-iterator c.next.new.self c.next.result (c.in-Some.key, c.in-Some.item) c.in-Some.is c.next.ensures.steps) c.in_ok-put_entry.ensures
