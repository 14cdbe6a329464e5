use Rattle.std.proofs.Common.{◌≡◌, refl, sym, ap, subst, ◌∙◌, map, true, false}
use Rattle.std.specs.List.{list_any, IsDistinct}
use Rattle.wit_model.specs.Text.{text_eq, text_of}
use Rattle.encode_names.specs.Clashes.{RefusesText}
use Rattle.encode_names.proofs.Repeats.{seen-there, new-pushed, new-distinct, texts-pushed}
use Rattle.encode_names.proofs.clash.see.Goals as goal

pub returns-then-contains-clause-refuses : goal.returns-then-contains-clause-refuses
returns-then-contains-clause-refuses c =
    let there : list_any (λ k. text_eq (text_of c.args.name) (text_of k)) c.args.seen.now.keys ≡ true = sym c.contains.ensures ∙ c.if-contains.true in
    RefusesText.clash c.args.name refl (seen-there c.args.seen.now.keys c.args.name there) refl

pub returns-clause-seen : goal.returns-clause-seen
returns-clause-seen c =
    let names = c.args.seen.now.keys in
    let absent : list_any (λ k. text_eq (text_of c.args.name) (text_of k)) names ≡ false = sym c.contains.ensures ∙ c.if-contains.false in
    ap (map text_of) (c.in_ok-insert.ensures.keys ∙ new-pushed names c.args.name absent) ∙ texts-pushed names c.args.name

pub returns-clause-once : goal.returns-clause-once
returns-clause-once c =
    let names = c.args.seen.now.keys in
    let absent : list_any (λ k. text_eq (text_of c.args.name) (text_of k)) names ≡ false = sym c.contains.ensures ∙ c.if-contains.false in
    subst (λ ks. IsDistinct text_eq (map text_of ks)) (sym (c.in_ok-insert.ensures.keys ∙ new-pushed names c.args.name absent)) (new-distinct names c.args.name c.requires.once absent)
