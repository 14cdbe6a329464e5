use Rattle.std.proofs.Common.{refl}
use Rattle.wit_json.proofs.Adding.{added, adds2, then_ok}
use Rattle.bind_json.proofs.encodings.put_member.Goals as goal

pub returns : goal.returns
returns c = then_ok _ _ _ (adds2 (added c.in_ok-begin_object.ensures) c.in_ok-put_text.ensures refl) c.end_entry.ensures refl
