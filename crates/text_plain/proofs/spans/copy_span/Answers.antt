use Rattle.text_plain.proofs.Cuts.{cuts_same}
use Rattle.text_plain.proofs.spans.copy_span.Goals as goal

pub returns : goal.returns
returns c =
    let moving = c.args.moving.now in
    cuts_same moving.from.now moving.whole.now moving.base c.requires.stands c.args.span.start c.args.span.end c.min.result c.min-2.result c.min.ensures c.min-2.ensures
