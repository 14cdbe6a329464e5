-- Those so far are written.
use Rattle.wit_json.specs.Listed.{entry_tokens}
use Rattle.wit_json.proofs.Adding.{Lists}
use Rattle.wit_json.proofs.items.put_entries.Given as goal

abbrev pub invariant-loop-key : goal.invariant-loop-key
invariant-loop-key l = Lists (entry_tokens l.resolve) l.items.entries l.key-iterator l.initial.w l.w
