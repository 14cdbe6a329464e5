use Rattle.std.proofs.Common.{◌≡◌, ◌∙◌, sym, ap, ◌-◌, length, get_or, arith, slice_index, take, string_bytes}
use Rattle.std.specs.{Str.Lines.lines, String.string_len}
use Rattle.text_tokens.specs.Gathered.{written}
use Rattle.text_tokens.proofs.DocLines.{cut_lines, last_byte, written_lines}
use Rattle.text_tokens.proofs.docs.cut_last.Goals as goal

pub returns-then-count-lt2 : goal.returns-then-count-lt2
returns-then-count-lt2 c = λ found e all. ap lines e ∙ written_lines found all

pub returns-then-as_bytes-count-eq10 : goal.returns-then-as_bytes-count-eq10
returns-then-as_bytes-count-eq10 c = λ found e all. ap lines e ∙ written_lines found all

pub returns : goal.returns
returns c = λ found e all.
    let old = string_bytes c.args.contents.now in
    let count = length (written found) in
    let long = c.if-count-lt2.false in
    let size : string_len c.args.contents.now ≡ count = sym c.as_bytes.ensures.len ∙ ap length (c.as_bytes.ensures.value ∙ e) in
    let last : slice_index old (string_len c.args.contents.now - 1) ≡ 10 =
    ap (λ n. slice_index old (n - 1)) size ∙ (ap (λ x. slice_index x (count - 1)) e ∙ last_byte found (omega arith)) in
    let shorter = c.pop.ensures.ascii_bytes (omega arith) (omega arith) in
    ap lines (shorter ∙ (ap (λ n. take (n - 1) old) size ∙ ap (take (count - 1)) e))
    ∙ cut_lines found all (omega arith)
    (λ f.
    c.if-as_bytes-count-eq10.false
    (ap (λ x. get_or x (length c.as_bytes-count.result.now - 2) 0) (c.as_bytes.ensures.value ∙ e)
    ∙ (ap (λ n. get_or (written found) (n - 2) 0) (ap length (c.as_bytes-count.ensures.value ∙ e)) ∙ f)))
