use Rattle.std.proofs.Common.{sym, ap, ◌∙◌, ◌++◌}
use Rattle.teasel_words.specs.Given.{text_if}
use Rattle.teasel_words.proofs.Joined.{joined-none, joined-empty, joined-equals, joined-some}
use Rattle.teasel_words.proofs.asked.joined.Goals as goal

pub returns-in_err-value : goal.returns-in_err-value
returns-in_err-value c = ap text_if c.from_residual.ensures ∙ joined-none c.args.name.now c.args.word.now c.in_err-value.ensures.cases

pub returns-in-None : goal.returns-in-None
returns-in-None c =
    let cut = c.in_ok-value.ensures.cases in
    joined-empty c.args.name.now c.args.word.now c.in_ok-value.value.now (cut.1.1 ∙ ap (λ t. c.args.name.now ++ t) (sym cut.2)) (sym (rw c.as_bytes.ensures.value at c.in-None.ensures.value))

pub returns-then-byte-eq61 : goal.returns-then-byte-eq61
returns-then-byte-eq61 c =
    let cut = c.in_ok-value.ensures.cases in
    joined-equals c.args.name.now c.args.word.now c.in_ok-value.value.now (cut.1.1 ∙ ap (λ t. c.args.name.now ++ t) (sym cut.2)) c.in-Some.byte.now
    (sym (rw c.as_bytes.ensures.value at c.in-Some.ensures.value)) c.if-byte-eq61.true

pub returns-else-byte-eq61 : goal.returns-else-byte-eq61
returns-else-byte-eq61 c =
    let cut = c.in_ok-value.ensures.cases in
    joined-some c.args.name.now c.args.word.now c.in_ok-value.value.now (cut.1.1 ∙ ap (λ t. c.args.name.now ++ t) (sym cut.2)) c.in-Some.byte.now
    (sym (rw c.as_bytes.ensures.value at c.in-Some.ensures.value)) c.if-byte-eq61.false
