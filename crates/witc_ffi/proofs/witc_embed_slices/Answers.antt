use Rattle.witc_ffi.specs.Answers.{IsEmbedded, LacksPart, RefusesEmbeddedIn, is_asked}
use Rattle.witc_ffi.proofs.OutcomeLaws.{passes}
use Rattle.witc_ffi.proofs.witc_embed_slices.Goals as goal

pub returns : goal.returns
returns c =
    let bytes = c.args.bytes.now in
    let name = c.args.name.now in
    let encoding = c.args.encoding in
    let canonical = is_asked c.args.canonical in
    passes (IsEmbedded bytes name encoding canonical) (RefusesEmbeddedIn bytes name encoding canonical) (LacksPart bytes name encoding) c.embedded.result c.hand_out.result c.hand_out.new.answer.text
    c.hand_out.new.why
    c.embedded.ensures c.hand_out.ensures
