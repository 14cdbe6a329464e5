use Rattle.std.specs.Map.Iter.{deref}
use Rattle.std.proofs.lemmas.Map.Iter.{rest_more}
use Rattle.wit_json.specs.Listed.{number_entry}
use Rattle.wit_json.proofs.Adding.{added, lists_more}
use Rattle.wit_json.proofs.packages.put_interface_numbers.Goals as goal

pub loop-id-preserved : goal.loop-id-preserved
loop-id-preserved c = lists_more (λ id. number_entry id.0) _ c.loop-id.id-iterator c.next.new.self c.in-Some.id.now c.loop-id.invariant
    (rest_more deref c.loop-id.id-iterator c.next.new.self c.next.result c.in-Some.id c.in-Some.is c.next.ensures.steps) (added c.in_ok-u64.ensures)
