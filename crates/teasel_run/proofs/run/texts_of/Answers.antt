use Rattle.std.proofs.{Common.◌∙◌, Common.arith, Common.ap, Common.sym, Common.ℕ, Common.Vec, Math.ListN.get_or-map, lemmas.List.length-map}
use Rattle.std.specs.declared.alloc.Global.{Global}
use Rattle.teasel_run.proofs.run.texts_of.Goals as goal

pub returns-in-Err-clause-none : goal.returns-in-Err-clause-none
returns-in-Err-clause-none c =
    let words = c.args.words.now in
    let bytes = λ (w : Vec ℕ Global). w.items in
    let low = c.loop-word-test.true in
    let len = length-map words bytes in
    let is = get_or-map bytes words c.loop-word.word-index c.word-item.result ∙ ap bytes (sym c.word-item.is) in
    (c.loop-word.word-index, c.word-item.result.items, omega (arith, low, len), is, (λ text. c.in-Err.ensures.cases.0 (rw c.deref.ensures.value text)))
