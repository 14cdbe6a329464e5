use Rattle.std.proofs.Common.{◌≡◌}
use Rattle.wit_model.specs.Rules.{entries_labels}
use Rattle.check_rules.proofs.labels.are_entries.Given as goal

abbrev pub invariant-loop-key : goal.invariant-loop-key
invariant-loop-key l = entries_labels l.key-iterator ≡ entries_labels l.entries.entries
