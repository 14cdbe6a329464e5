use Rattle.std.proofs.Common.{refl}
use Rattle.wit_json.proofs.Adding.{added, adds4}
use Rattle.bind_json.specs.Encodings.{encodings_tokens}
use Rattle.bind_json.proofs.encodings.put_encodings.Goals as goal

pub returns-clause-ok : goal.returns-clause-ok
unfolding encodings_tokens
returns-clause-ok c = adds4 (added c.in_ok-key.ensures) (added c.in_ok-begin_object.ensures) c.in_ok-put_sides.ensures.ok (added c.in_ok-end_object.ensures) refl
