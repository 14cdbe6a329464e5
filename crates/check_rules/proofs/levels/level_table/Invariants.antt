use Rattle.std.proofs.Common.{◌≡◌, ℕ, ◌<◌, length, min}
use Rattle.wit_model.specs.{Checks.entry_of, Tree.levels, Types.number_tree}
use Rattle.check_rules.proofs.levels.level_table.Given as goal

abbrev pub invariant-loop-def : goal.invariant-loop-def
invariant-loop-def l = record { made : length l.table.items ≡ l.def-index; right : (n : ℕ) → n < l.def-index → entry_of l.table.items n ≡ min 101 (levels (number_tree l.resolve n)) }
