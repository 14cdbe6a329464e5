use Rattle.std.proofs.Common.{refl}
use Rattle.wit_json.proofs.Adding.{added, adds3, then_token}
use Rattle.bind_json.proofs.encodings.end_entry.Goals as goal

pub returns : goal.returns
returns c = then_token _ (adds3 c.in_ok-put_text.ensures (added c.in_ok-key.ensures) c.in_ok-put_encoding.ensures refl) c.end_object.ensures refl
