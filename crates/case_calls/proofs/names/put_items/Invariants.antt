use Rattle.std.proofs.Common.{◌≡◌, true}
use Rattle.wit_model.specs.Rules.{entries_in_range}
use Rattle.case_calls.proofs.names.put_items.Given as goal

-- those that are left
abbrev pub invariant-loop-key : goal.invariant-loop-key
invariant-loop-key l = entries_in_range l.resolve l.key-iterator ≡ true
