use Rattle.std.proofs.Common.{refl}
use Rattle.wit_json.proofs.Adding.{added, adds3, then_ok}
use Rattle.bind_json.proofs.encodings.put_itself.Goals as goal

pub returns : goal.returns
returns c = then_ok _ _ _ (adds3 (added c.in_ok-begin_object.ensures) (added c.in_ok-key.ensures) (added c.in_ok-null.ensures) refl) c.end_entry.ensures refl
