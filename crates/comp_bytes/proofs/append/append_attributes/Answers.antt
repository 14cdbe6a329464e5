use Rattle.comp_bytes.specs.RawOf.{raw_name}
use Rattle.comp_bytes.proofs.NamesWritten.{three}
use Rattle.comp_bytes.proofs.append.append_attributes.Goals as goal

pub returns : goal.returns
returns c = three (raw_name c.args.name.now) _ _ _ _ _ c.in_ok-append_attribute.ensures.ok c.in_ok-append_attribute-2.ensures.ok c.append_attribute-3.ensures
