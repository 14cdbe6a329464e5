use Rattle.std.proofs.Common.{rules, ◌≡◌, sym, ap, subst, ◌∙◌, ◌∷◌, ◌++◌, [], append_assoc, true, false}
use Rattle.std.proofs.lemmas.Map.Iter.{rest_more}
use Rattle.std.specs.{List.list_any, List.IsDistinct, Map.Iter.deref_pair}
use Rattle.wit_model.specs.Text.{text_eq}
use Rattle.compat_meaning.specs.Compatible.{bare_keys}
use Rattle.compat_meaning.proofs.{Ranges.next_in_range, Repeating.now, Repeating.now_push, Repeating.key_there, Repeating.key_pushed, Repeating.key_distinct}
use Rattle.compat_meaning.proofs.repeats.repeated_key.Goals as goal

pub key_text-text-requires-clause-in_range : goal.key_text-text-requires-clause-in_range
key_text-text-requires-clause-in_range c =
    (next_in_range c.args.resolve.now c.loop-key.key-iterator c.next.new.self c.next.result (c.in-Some.key, c.in-Some._item) c.in-Some.is c.next.ensures.steps c.loop-key.invariant.in_range).0

pub loop-key-init : goal.loop-key-init
unfolding IsDistinct
loop-key-init c = record { split = search rules; once = subst (λ ks. IsDistinct text_eq (now ks)) (sym c.with_hasher-seen.ensures.empty) tt; in_range = search rules }

pub returns-then-not-branch : goal.returns-then-not-branch
returns-then-not-branch c =
    let r = c.args.resolve.now in
    let next = rest_more deref_pair c.loop-key.key-iterator c.next.new.self c.next.result (c.in-Some.key, c.in-Some._item) c.in-Some.is c.next.ensures.steps in
    let keys = c.loop-key.seen.keys in
    let there : list_any (λ k. text_eq c.key_text-text.result.now k.now) keys ≡ true = search rules in
    record {
      front = now keys;
      rest = bare_keys r c.next.new.self;
      split = c.loop-key.invariant.split ∙ ap (λ es. now keys ++ bare_keys r es) next ∙ ap (λ k. now keys ++ k ∷ bare_keys r c.next.new.self) (sym c.key_text-text.ensures);
      before = c.loop-key.invariant.once;
      again = key_there keys c.key_text-text.result there;
    }

pub loop-key-preserved : goal.loop-key-preserved
loop-key-preserved c =
    let r = c.args.resolve.now in
    let next = rest_more deref_pair c.loop-key.key-iterator c.next.new.self c.next.result (c.in-Some.key, c.in-Some._item) c.in-Some.is c.next.ensures.steps in
    let rest = bare_keys r c.next.new.self in
    let keys = c.loop-key.seen.keys in
    let t = c.key_text-text.result in
    let absent : list_any (λ k. text_eq t.now k.now) keys ≡ false = search rules in
    let added = c.in_ok-insert.ensures.keys ∙ key_pushed keys t absent in
    record {
      split = c.loop-key.invariant.split ∙ ap (λ es. now keys ++ bare_keys r es) next ∙ ap (λ k. now keys ++ k ∷ rest) (sym c.key_text-text.ensures)
          ∙ sym (append_assoc (now keys) (t.now ∷ []) rest) ∙ ap (λ ks. ks ++ rest) (sym (now_push keys t)) ∙ ap (λ ks. now ks ++ rest) (sym added);
      once = subst (λ ks. IsDistinct text_eq (now ks)) (sym added) (key_distinct keys t c.loop-key.invariant.once absent);
      in_range = (next_in_range r c.loop-key.key-iterator c.next.new.self c.next.result (c.in-Some.key, c.in-Some._item) c.in-Some.is c.next.ensures.steps c.loop-key.invariant.in_range).2;
    }
