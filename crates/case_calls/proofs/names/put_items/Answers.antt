use Rattle.std.proofs.{Common.◌≡◌, Common.subst, Common.true, Common.◌&&◌, lemmas.Map.Iter.rest_more}
use Rattle.std.specs.Map.Iter.{deref_pair}
use Rattle.wit_model.specs.Rules.{entries_in_range, item_in_range, key_in_range}
use Rattle.base_lemmas.proofs.Bools.{left_of as first_true, right_of as second_true}
use Rattle.case_calls.proofs.names.put_items.Goals as goal

pub put_item-requires : goal.put_item-requires
put_item-requires c =
    let r = c.args.resolve.now in
    let next = rest_more deref_pair c.loop-key.key-iterator c.next.new.self c.next.result (c.in-Some.key, c.in-Some.item) c.in-Some.is c.next.ensures.steps in
    let all : (key_in_range r c.in-Some.key.now && item_in_range r c.in-Some.item.now) && entries_in_range r c.next.new.self ≡ true =
    subst (λ es. entries_in_range r es ≡ true) next c.loop-key.invariant in
    second_true (key_in_range r c.in-Some.key.now) (item_in_range r c.in-Some.item.now)
    (first_true (key_in_range r c.in-Some.key.now && item_in_range r c.in-Some.item.now) (entries_in_range r c.next.new.self) all)

pub loop-key-preserved : goal.loop-key-preserved
loop-key-preserved c =
    let r = c.args.resolve.now in
    let next = rest_more deref_pair c.loop-key.key-iterator c.next.new.self c.next.result (c.in-Some.key, c.in-Some.item) c.in-Some.is c.next.ensures.steps in
    let all : (key_in_range r c.in-Some.key.now && item_in_range r c.in-Some.item.now) && entries_in_range r c.next.new.self ≡ true =
    subst (λ es. entries_in_range r es ≡ true) next c.loop-key.invariant in
    second_true (key_in_range r c.in-Some.key.now && item_in_range r c.in-Some.item.now) (entries_in_range r c.next.new.self) all
