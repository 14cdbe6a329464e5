use Rattle.std.proofs.Common.{rules, arith, ◌≡◌, sym, ap, ◌∙◌, ◌<◌, ◌+◌, suc, ◌++◌, ◌∷◌, [], length, map, take}
use Rattle.std.proofs.lemmas.List.{map-append}
use Rattle.wit_model.specs.Text.{text_of}
use Rattle.compat_meaning.specs.{Opened.interface_name, Outline.names_from}
use Rattle.compat_meaning.proofs.Naming.{names_more}
use Rattle.compat_meaning.proofs.names.interface_names.Goals as goal

pub loop-number-preserved : goal.loop-number-preserved
loop-number-preserved c =
    let r = c.args.resolve.now in
    let n = c.loop-number.number in
    let lt : n < length r.interfaces.items = search rules in
    let same : 0 + n ≡ n = omega arith in
    let next : n + 1 ≡ suc n = omega arith in
    ap (map text_of) c.in_ok-push.ensures.items ∙ map-append text_of c.loop-number.names.items (c.in_ok-name.name ∷ []) ∙ (λ i. c.loop-number.invariant i ++ c.in_ok-name.ensures i ∷ [])
    ∙ ap (λ m. names_from r 0 (take n r.interfaces.items) ++ interface_name r m ∷ []) (sym same) ∙ sym (names_more r 0 r.interfaces.items n lt)
    ∙ ap (λ m. names_from r 0 (take m r.interfaces.items)) (sym next)
