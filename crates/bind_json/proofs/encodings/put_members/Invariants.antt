-- Those so far are written.
use Rattle.wit_json.proofs.Adding.{Lists}
use Rattle.bind_json.specs.Encodings.{member_entry}
use Rattle.bind_json.proofs.encodings.put_members.Given as goal

abbrev pub invariant-loop-name : goal.invariant-loop-name
invariant-loop-name l = Lists (member_entry l.resolve l.encodings l.key l.scope) l.functions.entries l.name-iterator l.initial.w l.w
