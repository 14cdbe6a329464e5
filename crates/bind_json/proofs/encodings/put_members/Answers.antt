use Rattle.std.specs.Map.Iter.{deref_pair}
use Rattle.std.proofs.lemmas.Map.Iter.{rest_more}
use Rattle.wit_json.proofs.Adding.{lists_more}
use Rattle.bind_json.specs.Encodings.{member_entry}
use Rattle.bind_json.proofs.encodings.put_members.Goals as goal

pub loop-name-preserved : goal.loop-name-preserved
loop-name-preserved c = lists_more (member_entry c.args.resolve.now c.args.encodings.now c.args.key.now c.args.scope.now) _ c.loop-name.name-iterator c.next.new.self
    (c.in-Some.name.now, c.in-Some._function.now) c.loop-name.invariant (rest_more deref_pair c.loop-name.name-iterator c.next.new.self c.next.result (c.in-Some.name, c.in-Some._function) c.in-Some.is
    c.next.ensures.steps) (rw c.deref.ensures at (rw c.deref-in-loop-name.ensures at (rw c.get-encoding.ensures at c.in_ok-put_member.ensures)))
