use Rattle.witc_ffi.specs.Texts.{bytes_in, names_in}
use Rattle.witc_ffi.proofs.TextLaws.{passes-texts}
use Rattle.witc_ffi.proofs.witc_texts_package_slice.Goals as goal

pub returns : goal.returns
returns c =
    passes-texts (names_in c.args.texts.now) (bytes_in c.args.texts.now) c.args.own c.packed.result c.hand_out.result c.hand_out.new.answer.text c.hand_out.new.why
    c.packed.ensures c.hand_out.ensures
