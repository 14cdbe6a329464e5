use Rattle.std.proofs.{Common.rules, Common.sym, Common.ap, Common.subst, Common.◌∙◌, Common.◌++◌, Common.map, Common.true, lemmas.Map.Iter.rest_more}
use Rattle.std.specs.{List.IsDistinct, Map.Iter.deref_pair}
use Rattle.wit_model.specs.Text.{text_eq, text_of}
use Rattle.encode_names.specs.{WorldNames.written_key, Clashes.canonical_names_of}
use Rattle.encode_names.proofs.Paths.{items_refused, split-on}
use Rattle.encode_names.proofs.clash.refuse_clash.Goals as goal

pub loop-key-init : goal.loop-key-init
unfolding IsDistinct
loop-key-init c = record { split = search rules; once = subst (λ ks. IsDistinct text_eq (map text_of ks)) (sym c.new-seen.ensures.empty) tt }

pub see-requires : goal.see-requires
see-requires c = record { once = c.loop-key.invariant.once }

pub returns-in_err-see-clause-refuses : goal.returns-in_err-see-clause-refuses
returns-in_err-see-clause-refuses c =
    let r = c.args.resolve.now in
    let next = rest_more deref_pair c.loop-key.key-iterator c.next.new.self c.next.result (c.in-Some.key, c.in-Some._item) c.in-Some.is c.next.ensures.steps in
    let before = map text_of c.loop-key.seen.keys in
    items_refused r before (canonical_names_of r c.next.new.self) (text_of c.in_ok-name.name) (written_key r true c.in-Some.key.now) c.in_err-see.field-0.0
    c.from_residual-in_err-see.result c.args.items.now.entries (c.loop-key.invariant.split ∙ ap (λ es. before ++ canonical_names_of r es) next) c.in_ok-name.ensures.ok
    c.loop-key.invariant.once c.in_err-see.ensures.refuses c.from_residual-in_err-see.ensures.1

pub loop-key-preserved : goal.loop-key-preserved
loop-key-preserved c =
    let r = c.args.resolve.now in
    let next = rest_more deref_pair c.loop-key.key-iterator c.next.new.self c.next.result (c.in-Some.key, c.in-Some._item) c.in-Some.is c.next.ensures.steps in
    let before = map text_of c.loop-key.seen.keys in
    record {
      split = split-on (canonical_names_of r c.args.items.now.entries) before (map text_of c.see.new.seen.keys) (canonical_names_of r c.next.new.self) (text_of c.in_ok-name.name)
          (written_key r true c.in-Some.key.now) (c.loop-key.invariant.split ∙ ap (λ es. before ++ canonical_names_of r es) next) c.in_ok-name.ensures.ok c.in_ok-see.ensures.seen;
      once = c.in_ok-see.ensures.once;
    }
