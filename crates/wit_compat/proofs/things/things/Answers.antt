use Rattle.std.proofs.Common.{rules, arith, ◌≡◌, sym, ap, subst, ◌∙◌, ◌++◌, map, append_assoc, Some}
use Rattle.std.proofs.lemmas.Map.Iter.{rest_more}
use Rattle.std.specs.{List.Contains, Map.Iter.deref_pair}
use Rattle.compat_meaning.specs.{Flat.item_things, Flat.things_of, Numbered.number_in, Opened.bare_key, Parts.named_thing}
use Rattle.compat_meaning.proofs.Keyed.{item_key, numbered_more, things_more}
use Rattle.wit_compat.proofs.things.things.Goals as goal

pub loop-key-init : goal.loop-key-init
loop-key-init c = record {
  made = search rules;
  in_range = search rules;
  numbered = λ e d. absurd (let z = (subst (λ xs. Contains xs e) c.new-entries.ensures.items d).1 in omega (arith, z));
  kept = λ t n h. h;
}

pub loop-key-preserved : goal.loop-key-preserved
loop-key-preserved c =
    let r = c.args.resolve.now in
    let old = c.loop-key.entries.items in
    let key = c.in_ok-key.key in
    let item = c.in-Some.item.now in
    let xs = item_things r key.text.now item in
    let text : key.text.now ≡ bare_key r c.in-Some.key.now = c.in_ok-key.ensures.text ∙ c.key_text.ensures in
    let made : map named_thing c.push_item.new.entries.items ≡ map named_thing old ++ item_things r (bare_key r c.in-Some.key.now) item =
    things_more old c.push_item.new.entries.items key.number xs c.in_ok-push_item.ensures ∙ ap (λ k. map named_thing old ++ item_things r k item) text in
    let next = rest_more deref_pair c.loop-key.key-iterator c.next.new.self c.next.result (c.in-Some.key, c.in-Some.item) c.in-Some.is c.next.ensures.steps in
    let number : number_in c.key_of.new.keys.keys key.text.now ≡ Some key.number = ap (number_in c.key_of.new.keys.keys) c.in_ok-key.ensures.text ∙ c.in_ok-key.ensures.number in
    record {
      made = ap (λ ys. ys ++ things_of r c.next.new.self) made ∙ append_assoc (map named_thing old) (item_things r (bare_key r c.in-Some.key.now) item) (things_of r c.next.new.self)
          ∙ ap (λ es. map named_thing old ++ things_of r es) (sym next) ∙ c.loop-key.invariant.made;
      in_range = search rules;
      numbered = numbered_more old c.push_item.new.entries.items key.number xs c.in_ok-push_item.ensures c.loop-key.keys.keys c.key_of.new.keys.keys
          c.in_ok-key.ensures.kept c.loop-key.invariant.numbered (λ x d. ap (number_in c.key_of.new.keys.keys) (item_key r key.text.now item x d) ∙ number);
      kept = λ t n h. c.in_ok-key.ensures.kept t n (c.loop-key.invariant.kept t n h);
    }
