use Rattle.std.proofs.Common.{◌≡◌, ℕ, ◌<◌, length}
use Rattle.wit_model.specs.Checks.{entry_of, reach_of}
use Rattle.check_rules.proofs.list_orders.reach_table.Given as goal

abbrev pub invariant-loop-number : goal.invariant-loop-number
invariant-loop-number l = record { made : length l.table.items ≡ l.number; right : (n : ℕ) → n < l.number → entry_of l.table.items n ≡ reach_of l.resolve n }
