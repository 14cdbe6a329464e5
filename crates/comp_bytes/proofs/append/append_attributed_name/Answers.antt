use Rattle.std.proofs.Common.{arith}
use Rattle.comp_bytes.specs.{RawOf.raw_name, Spelling.attributes}
use Rattle.comp_bytes.proofs.NamesWritten.{length-attributes, attributed}
use Rattle.comp_bytes.proofs.append.append_attributed_name.Goals as goal

pub returns : goal.returns
returns c =
    let few = length-attributes (raw_name c.args.name.now) in
    attributed (attributes (raw_name c.args.name.now)) _ c.args.count _ _ _ _ _ _ _ c.requires.some (omega (arith, few, c.requires.counted)) c.requires.counted c.in_ok-push.ensures.items
    (rw c.deref.ensures.value at c.in_ok-append_name.ensures.appends.ok) c.in_ok-push-2.ensures.items c.append_attributes.ensures
