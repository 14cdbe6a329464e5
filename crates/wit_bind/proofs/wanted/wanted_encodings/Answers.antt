use Rattle.std.proofs.{Common.ap, Common.subst, Common.List, lemmas.Map.Iter.rest_all, lemmas.Map.Iter.rest_more}
use Rattle.std.specs.{FinMap.empty, Map.Iter.deref_pair}
use Rattle.bind_keys.specs.{KeyLists.Entry, KeyLists.entries_of_item, KeyLists.entries_of_items}
use Rattle.wit_bind.specs.{Choices.choice_of}
use Rattle.wit_bind.proofs.Putting.{IsLeft, left_next, left_none}
use Rattle.wit_bind.proofs.wanted.wanted_encodings.Goals as goal

pub returns-clause-ok : goal.returns-clause-ok
returns-clause-ok c =
    let r = c.args.resolve.now in
    let w = choice_of r c.args.wanted.now in
    let all = entries_of_items r w c.args.items.now.entries in
    let rest = rest_all deref_pair c.loop-key.key-iterator c.next.new.self c.next.result c.in-None.is c.next.ensures.steps in
    left_none all empty c.loop-key.table.encodings (subst (λ es. IsLeft all (entries_of_items r w es) empty c.loop-key.table.encodings) rest c.loop-key.invariant)

pub loop-key-preserved : goal.loop-key-preserved
loop-key-preserved c =
    let r = c.args.resolve.now in
    let w = choice_of r c.args.wanted.now in
    let all = entries_of_items r w c.args.items.now.entries in
    let next = rest_more deref_pair c.loop-key.key-iterator c.next.new.self c.next.result (c.in-Some.key, c.in-Some.item) c.in-Some.is c.next.ensures.steps in
    left_next all (entries_of_item r w c.in-Some.key.now c.in-Some.item.now) (entries_of_items r w c.next.new.self) empty c.loop-key.table.encodings c.put_item.new.table.encodings
    (subst (λ (es : List Entry). IsLeft all es empty c.loop-key.table.encodings) (ap (entries_of_items r w) next) c.loop-key.invariant) c.in_ok-put_item.ensures.ok
