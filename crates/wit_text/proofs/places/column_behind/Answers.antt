use Rattle.std.proofs.Common.{◌∙◌, ◌+◌, ap}
use Rattle.std.specs.List.{fold}
use Rattle.std.proofs.lemmas.List.{take_all}
use Rattle.wit_text.specs.Places.{since_line_feed}
use Rattle.wit_text.proofs.Columns.{counted_behind}
use Rattle.wit_text.proofs.places.column_behind.Goals as goal

pub returns : goal.returns
returns c =
    let whole = take_all c.loop-byte.byte-index c.args.before.now c.loop-byte-test.false in
    ap (λ n. n + 1) (c.loop-byte.invariant.is ∙ ap (fold since_line_feed 0) whole ∙ counted_behind c.args.before.now)
