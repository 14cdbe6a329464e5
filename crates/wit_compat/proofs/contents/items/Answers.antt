use Rattle.std.proofs.{Common.rules, Common.arith, Common.refl, Common.subst, lemmas.Map.Iter.rest_all, lemmas.Map.Iter.rest_more}
use Rattle.std.specs.{List.Contains, Map.Iter.deref_pair}
use Rattle.compat_meaning.proofs.{Ranges.next_in_range}
use Rattle.wit_compat.proofs.{WorldContents.all_made, WorldContents.nothing_made, WorldContents.put_in_range, WorldContents.put_split}
use Rattle.wit_compat.proofs.contents.items.Goals as goal

pub loop-key-init : goal.loop-key-init
loop-key-init c = record {
  split = nothing_made c.args.side.now.resolve.now _ _ _ (search rules) (search rules);
  made = λ e d. absurd (let h = subst (λ es. Contains es e) c.with_hasher-items.ensures.empty d in let z = h.1 in omega (arith, z));
  left = search rules;
}

pub loop-key-preserved : goal.loop-key-preserved
loop-key-preserved c =
    let r = c.args.side.now.resolve.now in
    let made = c.loop-key.items.entries in
    let key = c.in_ok-text.text in
    let item = c.in-Some.item in
    let next = rest_more deref_pair c.loop-key.key-iterator c.next.new.self c.next.result (c.in-Some.key, item) c.in-Some.is c.next.ensures.steps in
    let range = next_in_range r c.loop-key.key-iterator c.next.new.self c.next.result (c.in-Some.key, item) c.in-Some.is c.next.ensures.steps c.loop-key.invariant.left in
    record {
      split = put_split r made c.loop-key.key-iterator c.next.new.self c.args.list.now.entries c.in-Some.key.now item.now c.loop-key.invariant.split next key item _ c.in_ok-text.ensures refl
          c.in_ok-put.ensures;
      made = put_in_range r made _ key item c.in_ok-put.ensures c.loop-key.invariant.made range.1;
      left = range.2;
    }

pub returns-clause-sense : goal.returns-clause-sense
returns-clause-sense c = all_made c.args.side.now.resolve.now c.loop-key.items.entries c.loop-key.key-iterator c.args.list.now.entries c.loop-key.invariant.split
    (rest_all deref_pair c.loop-key.key-iterator c.next.new.self c.next.result c.in-None.is c.next.ensures.steps)

pub returns-clause-in_range : goal.returns-clause-in_range
returns-clause-in_range c = c.loop-key.invariant.made
