use Rattle.std.proofs.Common.{◌≡◌, max, drop}
use Rattle.wit_model.specs.Checks.{entry_of, highest}
use Rattle.check_rules.proofs.tables.highest.Given as goal

abbrev pub invariant-loop-number : goal.invariant-loop-number
invariant-loop-number l = max l.most (highest (entry_of l.table) (drop l.number-index l.numbers)) ≡ highest (entry_of l.table) l.numbers
