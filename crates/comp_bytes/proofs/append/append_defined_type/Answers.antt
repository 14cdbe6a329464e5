use Rattle.std.proofs.Common.{map}
use Rattle.comp_bytes.specs.{Form.Vector, Spelling.Field, Spelling.Case, RawOf.labeled}
use Rattle.comp_bytes.proofs.Appends.{tagged}
use Rattle.comp_bytes.proofs.append.append_defined_type.Goals as goal

pub returns-in_ok-push-in-Record : goal.returns-in_ok-push-in-Record
returns-in_ok-push-in-Record c =
    rw c.in-Record.is (tagged 0x72 (Vector Field (map labeled c.in-Record.fields.items)) _ _ _ _ _ _ c.in_ok-push-in-Record.ensures.items (rw c.deref.ensures.value at c.append_fields.ensures))

pub returns-in_ok-push-in-Variant : goal.returns-in_ok-push-in-Variant
returns-in_ok-push-in-Variant c = rw c.in-Variant.is (tagged 0x71 (Vector Case (map labeled c.in-Variant.cases.items)) _ _ _ _ _ _ c.in_ok-push-in-Variant.ensures.items
    (rw c.deref-in-Variant.ensures.value at c.append_cases.ensures))
