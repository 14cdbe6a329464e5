use Rattle.std.proofs.Common.{◌∙◌, sym, ap, length}
use Rattle.std.proofs.lemmas.Bool.{eqb-true}
use Rattle.text_tokens.proofs.DocLines.{none_written}
use Rattle.text_tokens.proofs.docs.docs_with.Goals as goal

pub returns-then-is_empty : goal.returns-then-is_empty
returns-then-is_empty c = λ found e all.
    none_written found
    (ap length (sym (c.as_bytes.ensures.value ∙ e)) ∙ eqb-true (length c.as_bytes.result.now) 0 (sym c.is_empty.ensures ∙ c.if-is_empty.true))

pub returns : goal.returns
returns c = λ found e all. c.cut_last.ensures found e all
