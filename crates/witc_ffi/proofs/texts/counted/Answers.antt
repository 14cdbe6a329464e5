use Rattle.witc_read.specs.{Packages.bytes_of, Places.names_of}
use Rattle.witc_refusals.specs.Numbers.{plain_why}
use Rattle.witc_ffi.specs.Texts.{bad_count, no_count}
use Rattle.witc_ffi.proofs.TextLaws.{tells-bad}
use Rattle.witc_ffi.proofs.texts.counted.Goals as goal

pub returns-else-is_count : goal.returns-else-is_count
returns-else-is_count c =
    tells-bad (names_of c.args.texts.now) (bytes_of c.args.texts.now) c.args.own bad_count (plain_why 25) c.no_count.result
    (no_count c.requires (c.is_count.ensures.no c.if-is_count.false)) c.no_count.ensures
