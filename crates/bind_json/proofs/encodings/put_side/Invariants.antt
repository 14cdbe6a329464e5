-- Those so far are written.
use Rattle.wit_json.proofs.Adding.{Lists}
use Rattle.bind_json.specs.Encodings.{item_encodings}
use Rattle.bind_json.proofs.encodings.put_side.Given as goal

abbrev pub invariant-loop-key : goal.invariant-loop-key
invariant-loop-key l = Lists (item_encodings l.resolve l.encodings) l.items.entries l.key-iterator l.initial.w l.w
