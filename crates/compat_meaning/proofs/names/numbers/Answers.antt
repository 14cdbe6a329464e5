use Rattle.std.proofs.Common.{rules, ◌≡◌, ◌∙◌, sym, ap, ◌<◌, ◌≤◌, ◌+◌, ◌++◌, ◌∷◌, [], length, map, take, Some}
use Rattle.std.proofs.lemmas.List.{map-append, take_all, take_more}
use Rattle.wit_model.specs.Text.{text_of}
use Rattle.compat_meaning.specs.Numbered.{number_in}
use Rattle.compat_meaning.proofs.Numbering.{numbers_more}
use Rattle.compat_meaning.proofs.names.numbers.Goals as goal

pub loop-text-preserved : goal.loop-text-preserved
loop-text-preserved c =
    let ts = c.args.texts.now in
    let i = c.loop-text.text-index in
    let t = c.text-item.result in
    let lt : i < length ts = search rules in
    let js = c.key_of.new.keys.keys in
    let more : map text_of (take (i + 1) ts) ≡ map text_of (take i ts) ++ text_of t ∷ [] =
    ap (map text_of) (take_more ts i t lt ∙ ap (λ x. take i ts ++ x ∷ []) (sym c.text-item.is)) ∙ map-append text_of (take i ts) (t ∷ []) in
    ap (map (number_in js)) more ∙ numbers_more c.loop-text.keys.keys js (map text_of (take i ts)) c.loop-text.numbers.items (text_of t) c.in_ok-key.key.number c.in_ok-key.ensures.kept
    c.loop-text.invariant (ap (number_in js) (sym c.as_str.ensures.value) ∙ c.in_ok-key.ensures.number) ∙ ap (map Some) (sym c.in_ok-push.ensures.items)

pub returns : goal.returns
returns c =
    let past : length c.args.texts.now ≤ c.loop-text.text-index = search rules in
    (c.loop-text.keys.keys, ap (λ xs. map (number_in c.loop-text.keys.keys) (map text_of xs)) (sym (take_all c.loop-text.text-index c.args.texts.now past)) ∙ c.loop-text.invariant)
