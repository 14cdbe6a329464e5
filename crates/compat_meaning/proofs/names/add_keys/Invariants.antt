use Rattle.std.proofs.Common.{◌≡◌, true}
use Rattle.wit_model.specs.Rules.{entries_in_range}
use Rattle.compat_meaning.proofs.names.add_keys.Given as goal

-- the keys that are left are in range
abbrev pub invariant-loop-key : goal.invariant-loop-key
invariant-loop-key l = entries_in_range l.resolve l.key-iterator ≡ true
