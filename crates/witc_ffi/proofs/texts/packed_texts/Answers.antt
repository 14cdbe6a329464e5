use Rattle.witc_read.specs.{Packages.bytes_of, Places.names_of}
use Rattle.witc_ffi.proofs.TextLaws.{tells-package}
use Rattle.witc_ffi.proofs.texts.packed_texts.Goals as goal

pub returns-in-Ok : goal.returns-in-Ok
returns-in-Ok c =
    tells-package (names_of c.args.texts.now) (bytes_of c.args.texts.now) c.args.own c.in-Ok.bytes.items c.done.result
    (record { asked = c.requires; is = c.in-Ok.ensures.ok }) c.done.ensures
